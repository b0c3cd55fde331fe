use Rattle.std.proofs.Common.{◌≡◌, take}
use Rattle.items.specs.Multiset.{IsMultiset}
use Rattle.loads.proofs.item_list.items_of_list.Given as goal

abbrev pub invariant-loop-size : goal.invariant-loop-size
invariant-loop-size l = record {
  so_far : l.items ≡ take l.size-index l.list;
  multiset : IsMultiset 120 l.items;
}
