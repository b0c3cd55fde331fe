use Rattle.std.proofs.Common.{◌≡◌, ◌++◌, replicate}
use Rattle.loads.proofs.bytes.push_times.Given as goal

abbrev pub invariant-loop-i : goal.invariant-loop-i
invariant-loop-i l = l.bytes.items ≡ l.initial.bytes.items ++ replicate l._i l.size
