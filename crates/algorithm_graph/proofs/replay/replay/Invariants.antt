use Rattle.std.proofs.Common.{◌≡◌, ◌<◌, ◌≤◌, length, sum, take}
use Rattle.node_pool.specs.Pools.{nodes_up_to}
use Rattle.algorithm_graph.specs.Replies.{replayed, replies}
use Rattle.algorithm_graph.specs.Replaying.{stand_of, replay_at, IsStandIn}
use Rattle.algorithm_graph.proofs.replay.replay.Given as goal

abbrev pub invariant-loop-size : goal.invariant-loop-size
invariant-loop-size l = record {
  at : replay_at l.actual (stand_of l.stand) ≡ replayed l.game (nodes_up_to l.root l.pool.nodes) (take l.size-index l.history);
  stand : IsStandIn l.game l.stand;
  one_each : length l.actual ≡ l.game.bins;
  total : sum l.actual ≤ sum (take l.size-index l.history);
  bin : 0 < l.size-index → l.bin ≡ replies l.game (nodes_up_to l.root l.pool.nodes) (take l.size-index l.history);
}
