use Rattle.std.proofs.Common.{◌≡◌, ◌++◌, drop}
use Rattle.packing_witness.specs.Contents.{items_in}
use Rattle.reachable_loads.proofs.packing.contents.Given as goal

abbrev pub invariant-loop-i : goal.invariant-loop-i
invariant-loop-i l = l.list ++ items_in l.bin (drop l.i l.items) (drop l.i l.bins) ≡ items_in l.bin l.items l.bins
