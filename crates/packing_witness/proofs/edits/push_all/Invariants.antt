use Rattle.std.proofs.Common.{◌≡◌, ◌++◌, take}
use Rattle.packing_witness.proofs.edits.push_all.Given as goal

abbrev pub invariant-loop-number : goal.invariant-loop-number
invariant-loop-number l = l.list ≡ l.initial.list ++ take l.number-index l.numbers
