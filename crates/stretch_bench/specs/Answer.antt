-- The command `answer`: the replies of a strategy of the algorithm to a list of items.
use Rattle.std.specs.Prelude.{◌≡◌, ℕ, ◌<◌, List, [], ◌∷◌, All, codes, decimal, map}
use Rattle.algorithm_graph.specs.Replies.{replies}
use Rattle.checker.specs.declared.fault.Wanted.TheVariants.{Only}
use Rattle.items.specs.Multiset.{IsSize}
use Rattle.items.specs.Packable.{Packable}
use Rattle.match_player.specs.Answers.{IsLeastUnpackable, answered_by}
use Rattle.match_player.specs.Lines.{answer_text}
use Rattle.online_play.specs.Algorithm.{run}
use Rattle.strategy_text.specs.declared.node.AlgNode.{AlgNode}
use Rattle.strategy_text.specs.declared.node.Nodes.TheVariants as nodes_of_side
use Rattle.strategy_text.specs.declared.node.Side.TheVariants.{Algorithm}
use Rattle.strategy_text.specs.declared.node.Strategy.{Strategy}
use Rattle.stretch_bench.specs.Form.{Form, of_strategy}
use Rattle.stretch_bench.specs.Lines.{written_line}

-- the greatest item that a word may tell
abbrev pub most_item : ℕ
most_item = 65535

-- the lines of the replies of a strategy of the algorithm to a packable list of items, on which they keep every load
-- below the target
pub record IsAnswerOf (items : List ℕ) (strategy : Strategy) (text : List ℕ) : Type 0 where
  pub nodes : List AlgNode
  pub of_algorithm : strategy.nodes ≡ nodes_of_side.Algorithm nodes
  pub packable : Packable strategy.game items
  pub below : All (λ load. load < strategy.game.target) (run strategy.game (replies strategy.game nodes) items)
  pub lines : text ≡ answer_text strategy.game (answered_by strategy.game (replies strategy.game nodes) items)

-- the first items, so many of them, are not packable
abbrev pub unpackable_line : ℕ → List ℕ
unpackable_line place = written_line (codes "unpackable" ∷ decimal place ∷ [])

-- the items are not packable in the game of a strategy
pub record IsUnpackable (items : List ℕ) (strategy : Strategy) (text : List ℕ) : Type 0 where
  pub place : ℕ
  pub least : IsLeastUnpackable strategy.game items place
  pub line : text ≡ unpackable_line place

abbrev pub answer : List ℕ → Form
answer items = record {
  name = codes "answer";
  arguments = map decimal items;
  IsAllowed = All (IsSize most_item) items;
  work = of_strategy (Only Algorithm) (IsAnswerOf items);
}
