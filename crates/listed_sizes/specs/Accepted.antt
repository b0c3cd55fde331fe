use Rattle.std.specs.Prelude.{◌≡◌, ℕ, List, Option, length}
use Rattle.checker.specs.Accepted.{IsGone, IsReadWhole}
use Rattle.checker.specs.Listed.{IsLegalOver, listed_text_of}
use Rattle.listed_sizes.specs.declared.checking.ListedAccepted.{ListedAccepted}
use Rattle.strategy_text.specs.Text.{nodes_of, side_of}
use Rattle.strategy_text.specs.declared.node.Strategy.{Strategy}

-- a legal strategy with listed sizes stands after the answer, with its game, its sizes, its side and its number of
-- nodes; where the source tells its bytes, they are its text, and all of them were read
pub record AcceptsListed (accepted : ListedAccepted) (left new_left : Option (List ℕ)) : Type 0 where
  pub strategy : Strategy
  pub legal : IsLegalOver accepted.sizes strategy
  pub read : List ℕ
  pub gone : IsGone read left new_left
  pub spelled : read ≡ listed_text_of accepted.sizes strategy
  pub whole : IsReadWhole new_left
  pub game : accepted.game ≡ strategy.game
  pub side : accepted.side ≡ side_of strategy.nodes
  pub number : accepted.nodes ≡ length (nodes_of strategy.nodes)
