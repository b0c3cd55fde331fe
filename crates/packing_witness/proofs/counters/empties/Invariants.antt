use Rattle.std.proofs.Common.{◌≡◌, ℕ, ◌+◌, ◌≤◌, length, sum, take, slice_index}
use Rattle.std.specs.List.{concat, All}
use Rattle.items.specs.Multiset.{count}
use Rattle.packing_witness.proofs.counters.empties.Given as goal

abbrev pub invariant-loop-bin : goal.invariant-loop-bin
invariant-loop-bin l =
    (length l.left ≡ 121) × All (λ bin. sum bin ≤ l.most) (take l.bin-index l.bins)
    × ((size : ℕ) → slice_index l.left size + count size (concat (take l.bin-index l.bins)) ≡ slice_index l.fn.left size)
