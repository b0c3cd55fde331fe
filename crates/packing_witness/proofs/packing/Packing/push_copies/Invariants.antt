use Rattle.std.proofs.Common.{◌≡◌, ◌++◌, take}
use Rattle.packing_witness.proofs.packing.Packing.push_copies.Given as goal

abbrev pub invariant-loop-bin : goal.invariant-loop-bin
invariant-loop-bin l = l.self ≡ l.initial.self ++ take l.bin-index l.bins
