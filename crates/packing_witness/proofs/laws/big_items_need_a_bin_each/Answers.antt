use Rattle.packing_witness.proofs.PackableLemmas.{count_big-Packable-le}
use Rattle.packing_witness.proofs.laws.big_items_need_a_bin_each.Goals as goal

pub returns : goal.returns
returns c = record { big = count_big-Packable-le }
