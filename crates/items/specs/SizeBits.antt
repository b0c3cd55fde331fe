-- Serves private contracts: how the sizes that items may have lie in a word.
use Rattle.std.specs.Prelude.{◌≡◌, ◌==◌, ℕ, ◌+◌, ◌≤◌, List}
use Rattle.std.specs.Int.{bit_at}
use Rattle.std.specs.List.{filter, range_with_len}
use Rattle.items.specs.declared.limits.TheConstants.{MOST_SIZE}
use Rattle.items.specs.Multiset.{AreSizes}

-- the sizes from 1 to a greatest one whose bits are set, in ascending order
abbrev pub sizes_up_to : ℕ → ℕ → List ℕ
sizes_up_to most bits = filter (λ size. bit_at bits size == 1) (range_with_len 1 most)

-- the sizes from 1 to 120 whose bits are set, in ascending order
unfoldable pub sizes_in : ℕ → List ℕ
sizes_in bits = sizes_up_to MOST_SIZE bits

-- no bit is set from a place on
abbrev pub IsClearFrom : ℕ → ℕ → Type 0
IsClearFrom low bits = (place : ℕ) → low ≤ place → bit_at bits place ≡ 0

-- a word that stands for sizes, and has no bit above that of the greatest size of all games
pub record AreSizeBits (bits : ℕ) : Type 0 where
  pub sizes : AreSizes MOST_SIZE (sizes_in bits)
  pub clear : IsClearFrom (MOST_SIZE + 1) bits
