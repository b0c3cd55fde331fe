use Rattle.std.proofs.Common.{◌≡◌}
use Rattle.packing_witness.specs.Contents.{contents_of}
use Rattle.reachable_loads.proofs.packing.packing_of.Given as goal

abbrev pub invariant-loop-bin : goal.invariant-loop-bin
invariant-loop-bin l = l.packing ≡ contents_of l.items l.bins l.bin
