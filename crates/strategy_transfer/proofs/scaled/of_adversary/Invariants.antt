use Rattle.std.proofs.Common.{◌≡◌, map, take}
use Rattle.strategy_transfer.specs.Scaled.{scaled_node}
use Rattle.strategy_transfer.proofs.scaled.of_adversary.Given as goal

abbrev pub invariant-loop-node : goal.invariant-loop-node
invariant-loop-node l = l.made ≡ map (scaled_node l.c) (take l.node-index l.nodes)
