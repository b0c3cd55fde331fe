use Rattle.std.proofs.Common.{◌≡◌, ◌≤◌, take, length}
use Rattle.algorithm_graph.specs.Judging.{sizes_in, sizes_up_to}
use Rattle.algorithm_graph.proofs.rules.are_sizes_up_to.Given as goal

abbrev pub invariant-loop-below : goal.invariant-loop-below
invariant-loop-below l = (l.place ≤ length l.entries) × (take l.place (sizes_in l.entries) ≡ sizes_up_to l.sizes l.below)
