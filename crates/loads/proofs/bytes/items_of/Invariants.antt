use Rattle.std.proofs.Common.{◌≡◌, take}
use Rattle.items.specs.Multiset.{IsMultiset}
use Rattle.loads.proofs.bytes.items_of.Given as goal

abbrev pub invariant-loop-size : goal.invariant-loop-size
invariant-loop-size l = record {
  so_far : l.items ≡ take l.size-index l.sizes;
  multiset : IsMultiset 120 l.items;
}
