use Rattle.packing_witness.proofs.PackingLemmas.{none_from_without, without_none, IsPacking-without_last}
use Rattle.packing_witness.proofs.laws.taken_out_leaves_a_packing.Goals as goal

pub returns : goal.returns
returns c = record { nothing = λ item bins. (none_from_without item bins, without_none item bins); packing = IsPacking-without_last }
