use Rattle.std.proofs.Common.{◌≡◌, ℕ, length, slice_index, take}
use Rattle.items.specs.Multiset.{count}
use Rattle.packing_witness.proofs.counters.counters_with.Given as goal

abbrev pub invariant-loop-item : goal.invariant-loop-item
invariant-loop-item l =
    (length l.counters ≡ 121) × ((size : ℕ) → slice_index l.counters size ≡ count size (take l.item-index l.items))
