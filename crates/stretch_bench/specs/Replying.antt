-- What an accepted strategy of the algorithm does.
use Rattle.std.specs.Prelude.{◌≡◌, ℕ, List, length, Option}
use Rattle.items.specs.Game.{GameNumbers}
use Rattle.online_play.specs.Algorithm.{IsAlgorithm, KeepsBelow}
use Rattle.strategy_text.specs.declared.node.AlgNode.{AlgNode}
use Rattle.strategy_text.specs.declared.node.Format.{Format}
use Rattle.strategy_text.specs.declared.node.Nodes.TheVariants.{Algorithm}
use Rattle.algorithm_graph.specs.Replies.{replies}
use Rattle.checker.specs.Accepted.{IsLoaded}
use Rattle.checker.specs.declared.fault.Wanted.TheVariants.{Either}

-- the bytes that were read spell a legal strategy of the algorithm for this game, with so many nodes; its replies are
-- an online algorithm, and they keep every load below the target on every packable list of items
pub record Replying (game : GameNumbers) (number : ℕ) (left new_left : Option (List ℕ)) : Type 0 where
  pub format : Format
  pub nodes : List AlgNode
  pub number_of_nodes : number ≡ length nodes
  pub loaded : IsLoaded Either (record { format = format; game = game; nodes = Algorithm nodes }) left new_left
  pub algorithm : IsAlgorithm game (replies game nodes)
  pub keeps : KeepsBelow game (replies game nodes)
