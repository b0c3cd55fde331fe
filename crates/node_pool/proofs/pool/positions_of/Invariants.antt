use Rattle.std.proofs.Common.{◌≡◌, map, take}
use Rattle.node_pool.proofs.pool.positions_of.Given as goal

abbrev pub invariant-loop-number : goal.invariant-loop-number
invariant-loop-number g l = l.positions ≡ map g.R.NodeRules.position (take l.number l.nodes.nodes)
