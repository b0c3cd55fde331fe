use Rattle.std.proofs.Common.{◌≡◌, ℕ, ◌<◌, ◌≤◌, length, slice_index}
use Rattle.items.specs.Multiset.{count, IsMultiset}
use Rattle.packing_witness.proofs.counters.counters_of.Given as goal

abbrev pub invariant-loop-size : goal.invariant-loop-size
invariant-loop-size l =
    (length l.counters ≡ 121) × (slice_index l.counters 0 ≡ 0) × (1 < l.size → IsMultiset 120 l.items) × ((k : ℕ) → 1 ≤ k → k < l.size → slice_index l.counters k ≡ count k l.items)
