use Rattle.std.proofs.Common.{◌≡◌, ◌*◌, take, map}
use Rattle.packing_witness.proofs.edits.times.Given as goal

abbrev pub invariant-loop-size : goal.invariant-loop-size
invariant-loop-size l = l.made ≡ map (λ size. size * l.c) (take l.size-index l.bin)
