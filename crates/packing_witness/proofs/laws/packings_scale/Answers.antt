use Rattle.packing_witness.proofs.PackingLemmas.{IsPacking-scaled}
use Rattle.packing_witness.proofs.laws.packings_scale.Goals as goal

pub returns : goal.returns
returns c = record { scaled = IsPacking-scaled }
