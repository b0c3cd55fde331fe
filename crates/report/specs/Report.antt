-- What a strategy shows.
use Rattle.std.specs.Prelude.{◌≡◌, ℕ, ◌*◌, length}
use Rattle.std.specs.Int.{IsGcd}
use Rattle.strategy_text.specs.Text.{nodes_of, side_of}
use Rattle.strategy_text.specs.declared.node.Strategy.{Strategy}
use Rattle.report.specs.Walks.{IsDepth}
use Rattle.report.specs.declared.summary.Report.{Report}

-- a fraction top / bottom equals target / capacity, and 1 is the greatest common divisor of its terms
pub record IsInLowestTerms (target capacity top bottom : ℕ) : Type 0 where
  pub equal : top * capacity ≡ target * bottom
  pub lowest : IsGcd top bottom 1

-- the game, the side, the number of nodes and the depth of a strategy, and its target over its capacity
pub record IsReportOf (strategy : Strategy) (report : Report) : Type 0 where
  pub game : report.game ≡ strategy.game
  pub side : report.side ≡ side_of strategy.nodes
  pub nodes : report.nodes ≡ length (nodes_of strategy.nodes)
  pub depth : IsDepth strategy report.depth
  pub lowest : IsInLowestTerms strategy.game.target strategy.game.capacity report.top report.bottom
