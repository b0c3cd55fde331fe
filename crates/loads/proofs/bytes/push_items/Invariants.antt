use Rattle.std.proofs.Common.{◌≡◌, ◌+◌, ◌++◌, drop}
use Rattle.items.specs.Counters.{expanded, counters_of}
use Rattle.loads.proofs.bytes.push_items.Given as goal

abbrev pub invariant-loop-i : goal.invariant-loop-i
invariant-loop-i l = l.bytes.items ++ expanded (l.i + 1) (drop l.i (counters_of l.items)) ≡ l.initial.bytes.items ++ l.items
