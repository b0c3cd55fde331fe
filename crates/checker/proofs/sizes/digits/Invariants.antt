use Rattle.std.proofs.Common.{◌≤◌, drop}
use Rattle.checker.proofs.SizesLemmas.{DigitsSoFar}
use Rattle.checker.proofs.sizes.digits.Given as goal

abbrev pub invariant-loop-b : goal.invariant-loop-b
invariant-loop-b l = DigitsSoFar l.value (drop l.b-index l.word) l.word × (l.value ≤ 65535)
