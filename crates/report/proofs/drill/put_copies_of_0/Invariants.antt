use Rattle.std.proofs.Common.{◌≡◌, ◌++◌, replicate}
use Rattle.report.specs.Drill.{node_0}
use Rattle.report.proofs.drill.put_copies_of_0.Given as goal

abbrev pub invariant-loop-i : goal.invariant-loop-i
invariant-loop-i l = l.nodes ≡ l.fn.nodes ++ replicate l._i node_0
