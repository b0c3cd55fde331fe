-- Serves private contracts: what is left of the items while bins are taken out of them.
use Rattle.std.specs.Prelude.{◌≡◌, ℕ, ◌+◌, ◌<◌, ◌≤◌, List, slice_index, sum, ◌⊎◌, All}
use Rattle.std.specs.List.{concat}
use Rattle.items.specs.Multiset.{count}

-- each counter went down by what the bin has of its size
abbrev pub AreCountedDown : List ℕ → List ℕ → List ℕ → Type 0
AreCountedDown old new bin = (size : ℕ) → slice_index new size + count size bin ≡ slice_index old size

-- a bin of at most the capacity whose items were all left
pub record TakesOut (most : ℕ) (old new bin : List ℕ) : Type 0 where
  pub fits : sum bin ≤ most
  pub counted : AreCountedDown old new bin

-- the bin is above the capacity, or has more of a size than was left
abbrev pub CannotTakeOut : ℕ → List ℕ → List ℕ → Type 0
CannotTakeOut most old bin = (most < sum bin) ⊎ ((size : ℕ) × (slice_index old size < count size bin))

-- bins of at most the capacity that together have what is left, each size as often
pub record Empties (most : ℕ) (left : List ℕ) (bins : List (List ℕ)) : Type 0 where
  pub fits : All (λ bin. sum bin ≤ most) bins
  pub together : (size : ℕ) → count size (concat bins) ≡ slice_index left size
