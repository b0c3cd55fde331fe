use Rattle.loads.proofs.ItemListLemmas.{loads_sum_small}
use Rattle.loads.proofs.item_list.total_of.Goals as goal

pub total-requires : goal.total-requires
total-requires c = loads_sum_small c.as_slice.result.now (rw c.as_slice.ensures.value c.as_slice.ensures.loads)
