use Rattle.std.proofs.Common.{◌≡◌, ◌++◌, replicate}
use Rattle.items.proofs.list.Sequence.push_times.Given as goal

abbrev pub invariant-loop-i : goal.invariant-loop-i
invariant-loop-i g l = l.self-inside.elements.items ≡ l.initial.self-inside.elements.items ++ replicate l._i l.element
