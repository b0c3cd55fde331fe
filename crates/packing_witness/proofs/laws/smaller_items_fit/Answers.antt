use Rattle.packing_witness.proofs.PackableLemmas.{Packable-smaller}
use Rattle.packing_witness.proofs.laws.smaller_items_fit.Goals as goal

pub returns : goal.returns
returns c = record { smaller = Packable-smaller }
