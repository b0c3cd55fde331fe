use Rattle.packing_witness.proofs.PackableLemmas.{Packable-from_packing, packing-from_Packable}
use Rattle.packing_witness.proofs.laws.packings_are_assignments.Goals as goal

pub returns : goal.returns
returns c = record { bridge = λ game items sizes. (λ p. Packable-from_packing game p.0 items sizes p.1, packing-from_Packable game items) }
