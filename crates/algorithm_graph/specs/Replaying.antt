-- Serves private contracts: replays as the player of a file holds them.
use Rattle.std.specs.Prelude.{◌≡◌, ℕ, List, ◌-◌, ◌<◌, ◌≤◌}
use Rattle.items.specs.Game.{GameNumbers}
use Rattle.good_situations.specs.KeptOrder.{IsOrderOf}
use Rattle.strategy_text.specs.declared.node.Act.{Act}
use Rattle.strategy_text.specs.declared.node.Act.TheVariants.{Finish, Big, Reply}
use Rattle.algorithm_graph.specs.Replies.{Stand, at_node, under_finish, under_big, Replay, Move, move_to}
use Rattle.algorithm_graph.specs.declared.replay.ReplayStand.{ReplayStand}
use Rattle.algorithm_graph.specs.declared.replay.ReplayStand.TheVariants.{AtNode, UnderFinish, UnderBig}
use Rattle.algorithm_graph.specs.declared.replay.Step.{Step}

-- where a replay stands
abbrev pub stand_of : ReplayStand → Stand
stand_of (AtNode number) = at_node number
stand_of (UnderFinish kept) = under_finish kept.order
stand_of (UnderBig order) = under_big order

-- the replay with these loads by bin number that stands here
abbrev pub replay_at : List ℕ → Stand → Replay
replay_at actual stand = record { actual = actual; stand = stand }

-- the order that is kept, if one is, is one of the game
abbrev pub IsStandIn : GameNumbers → ReplayStand → Type 0
IsStandIn game (AtNode number) = Unit {0}
IsStandIn game (UnderFinish kept) = kept.game ≡ game
IsStandIn game (UnderBig order) = IsOrderOf game.bins order

-- the step is this move in the game
pub record IsStep (game : GameNumbers) (step : Step) (move : Move) : Type 0 where
  pub is : move_to step.bin (stand_of step.next) ≡ move
  pub in_range : step.bin < game.bins
  pub stand : IsStandIn game step.next

-- a node that keeps bins for big items leaves a bin that is not reserved
abbrev pub LeavesABin : GameNumbers → Act → Type 0
LeavesABin game Finish = Unit {0}
LeavesABin game (Big b) = b ≤ game.bins - 1
LeavesABin game (Reply entries) = Unit {0}
