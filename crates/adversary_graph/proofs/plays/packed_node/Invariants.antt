use Rattle.std.proofs.Common.{◌≡◌, ◌<◌, ◌+◌, ℕ, length}
use Rattle.adversary_graph.specs.Play.{end_packing}
use Rattle.adversary_graph.proofs.plays.packed_node.Given as goal

abbrev pub invariant-loop-shown : goal.invariant-loop-shown
invariant-loop-shown l =
    (l.at < length l.pool.nodes)
    × ((n : ℕ) × (l.at < n) × (end_packing l.pool.nodes (l.number + 1) l.number ≡ end_packing l.pool.nodes n l.at))

abbrev pub decreases-loop-shown : goal.decreases-loop-shown
decreases-loop-shown l = l.at
