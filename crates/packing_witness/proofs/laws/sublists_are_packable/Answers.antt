use Rattle.packing_witness.proofs.PackableLemmas.{Packable-part, Packable-sublist}
use Rattle.packing_witness.proofs.laws.sublists_are_packable.Goals as goal

pub returns : goal.returns
returns c = record { sublists = Packable-sublist; parts = Packable-part }
