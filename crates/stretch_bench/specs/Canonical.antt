-- What is said of a strategy that a command writes.
use Rattle.std.specs.Prelude.{◌≡◌}
use Rattle.strategies.specs.AnyNode.{IsLegal}
use Rattle.minimise.specs.Reached.{AreDistinct, AreReached}
use Rattle.minimise.specs.Strategies.{canonical_form, positions_in, references_in}
use Rattle.strategy_text.specs.Text.{side_of}
use Rattle.strategy_text.specs.declared.node.Strategy.{Strategy}

-- a legal strategy in canonical form: no position stands at two nodes, and each node is reached from the last
pub record IsCanonical (strategy : Strategy) : Type 0 where
  pub legal : IsLegal strategy
  pub distinct : AreDistinct (positions_in strategy.nodes)
  pub reached : AreReached (references_in strategy.nodes)
  pub stays : canonical_form strategy ≡ strategy

-- the strategies are of one game and one side
pub record IsAlike (strategy made : Strategy) : Type 0 where
  pub game : made.game ≡ strategy.game
  pub side : side_of made.nodes ≡ side_of strategy.nodes
