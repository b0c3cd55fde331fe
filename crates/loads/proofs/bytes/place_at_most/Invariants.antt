use Rattle.std.proofs.Common.{ℕ, ◌<◌, get_or}
use Rattle.loads.proofs.bytes.place_at_most.Given as goal

abbrev pub invariant-loop-i : goal.invariant-loop-i
invariant-loop-i l = (k : ℕ) → k < l.i → l.grown < get_or l.loads k 0
