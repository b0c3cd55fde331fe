use Rattle.packing_witness.proofs.PackableLemmas.{sum-Packable-le}
use Rattle.packing_witness.proofs.laws.packable_lists_fit.Goals as goal

pub returns : goal.returns
returns c = record { totals = sum-Packable-le; items = λ game items p. p.1.item_list }
