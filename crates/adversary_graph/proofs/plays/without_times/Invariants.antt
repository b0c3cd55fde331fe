use Rattle.std.proofs.Common.{◌≡◌, replicate}
use Rattle.adversary_graph.specs.Play.{without_all}
use Rattle.adversary_graph.proofs.plays.without_times.Given as goal

abbrev pub invariant-loop-i : goal.invariant-loop-i
invariant-loop-i l = l.packing ≡ without_all (replicate l._i l.size) l.fn.bins
