use Rattle.std.proofs.Common.{◌≡◌, take}
use Rattle.packing_witness.specs.Edits.{scaled}
use Rattle.packing_witness.proofs.packing.Packing.scaled.Given as goal

abbrev pub invariant-loop-bin : goal.invariant-loop-bin
invariant-loop-bin l = l.made ≡ scaled l.c (take l.bin-index l.self)
