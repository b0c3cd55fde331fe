-- What serves private contracts alone: which bit of a plane stands for which loads, and how an item moves the bits.
use Rattle.std.specs.Prelude.{◌≡◌, ◌↔◌, ℕ, zero, suc, ◌+◌, ◌-◌, ◌*◌, ◌/◌, ◌%◌, ◌^◌, ◌<◌, ◌≤◌}
use Rattle.std.specs.Prelude.{◌⊎◌, min, List, [], ◌∷◌, ◌++◌, length, sum, All, slice_index}
use Rattle.items.specs.Game.{GameNumbers}
use Rattle.reach_planes.specs.Reached.{HasTotals}
use Rattle.reach_planes.specs.Words.{IsSet}

-- the loads of all bins but the last, with which some load of the last bin an assignment of the items has
abbrev pub IsStart : GameNumbers → List ℕ → List ℕ → Type 0
IsStart game items first = (last : ℕ) × HasTotals game items (first ++ last ∷ [])

-- the number that digits spell in a base, the least digit first
abbrev pub row_of : ℕ → List ℕ → ℕ
row_of base [] = 0
row_of base (digit ∷ digits) = digit + base * row_of base digits

-- so many digits of a number, from the least on
abbrev pub digits_of : ℕ → ℕ → ℕ → List ℕ
digits_of base zero number = []
digits_of base (suc places) number = (number % base) ∷ digits_of base places (number / base)

-- the sum of so many digits of a number, from the least on
abbrev pub digit_sum : ℕ → ℕ → ℕ → ℕ
digit_sum base zero number = 0
digit_sum base (suc places) number = number % base + digit_sum base places (number / base)

-- how many rows a plane has: one for each list of loads of the bins but the first and the last
abbrev pub rows_of : GameNumbers → ℕ
rows_of game = (game.capacity + 1) ^ (game.bins - 2)

-- how many words a row has, for the loads 0 to 63 and the loads from 64 on
abbrev pub halves_of : GameNumbers → ℕ
halves_of game = game.capacity / 64 + 1

-- the place of a word: all first words of the rows come before all second ones
abbrev pub word_at : ℕ → ℕ → ℕ → ℕ
word_at rows half row = half * rows + row

-- loads of the bins but the first and the last
pub record AreDigits (game : GameNumbers) (digits : List ℕ) : Type 0 where
  pub one_each : length digits + 2 ≡ game.bins
  pub fit : All (λ load. load ≤ game.capacity) digits

-- a word of a plane, and a bit of it
pub record IsPlace (rows halves half row bit : ℕ) : Type 0 where
  pub in_halves : half < halves
  pub in_rows : row < rows
  pub in_word : bit < 64

-- the bits that are set are those of the first loads of assignments of the items
pub record IsPlaneOf (game : GameNumbers) (items words : List ℕ) : Type 0 where
  pub size : length words ≡ halves_of game * rows_of game
  pub exact : (half bit : ℕ) (digits : List ℕ) → AreDigits game digits → half < halves_of game → bit < 64
      → IsSet words (word_at (rows_of game) half (row_of (game.capacity + 1) digits)) bit
      ↔ ((64 * half + bit ≤ game.capacity) × IsStart game items ((64 * half + bit) ∷ digits))

-- the sums of the digits of the rows
pub record AreDigitSums (game : GameNumbers) (sums : List ℕ) : Type 0 where
  pub size : length sums ≡ rows_of game
  pub exact : (row : ℕ) → row < rows_of game → slice_index sums row ≡ digit_sum (game.capacity + 1) (game.bins - 2) row

-- the bits whose loads have at least this sum stay
pub record IsKept (halves lack : ℕ) (sums before after : List ℕ) : Type 0 where
  pub exact : (half row bit : ℕ) → IsPlace (length sums) halves half row bit
      → IsSet after (word_at (length sums) half row) bit
      ↔ (IsSet before (word_at (length sums) half row) bit × (lack ≤ 64 * half + bit + slice_index sums row))

-- the bits of the plane moved by the size within their rows are joined to those that were there
pub record IsPutInFirst (rows capacity size : ℕ) (source before after : List ℕ) : Type 0 where
  pub exact : (half row bit : ℕ) → IsPlace rows (capacity / 64 + 1) half row bit
      → IsSet after (word_at rows half row) bit
      ↔ (IsSet before (word_at rows half row) bit
      ⊎ ((size ≤ 64 * half + bit) × (64 * half + bit ≤ capacity)
      × IsSet source (word_at rows ((64 * half + bit - size) / 64) row) ((64 * half + bit - size) % 64)))

-- the rows of the plane moved by the size at one digit are joined to those that were there
pub record IsPutInBin (stride base size : ℕ) (source before after : List ℕ) : Type 0 where
  pub exact : (block offset bit : ℕ) → offset < base * stride → block * (base * stride) + offset < length before
      → bit < 64
      → IsSet after (block * (base * stride) + offset) bit
      ↔ (IsSet before (block * (base * stride) + offset) bit
      ⊎ ((size * stride ≤ offset) × IsSet source (block * (base * stride) + offset - size * stride) bit))

-- a total that stands still at 65,535
abbrev pub held_total : List ℕ → ℕ
held_total items = min (sum items) 65535

-- what is kept beside the items
pub record ArePlanes (game : GameNumbers) (items : List ℕ) (total : ℕ) (sums words : List ℕ) : Type 0 where
  pub total_is : total ≡ held_total items
  pub sums_are : AreDigitSums game sums
  pub plane : IsPlaneOf game items words

-- a number that is the least load with a bit set in some row
pub record IsLeastBit (rows halves : ℕ) (words : List ℕ) (load : ℕ) : Type 0 where
  pub row : ℕ
  pub in_rows : row < rows
  pub in_halves : load / 64 < halves
  pub is_set : IsSet words (word_at rows (load / 64) row) (load % 64)
  pub none_below : (half r bit : ℕ) → half < halves → r < rows → bit < 64 → 64 * half + bit < load
      → IsSet words (word_at rows half r) bit → ⊥

-- no bit is set in so many halves
abbrev pub NoBits : ℕ → ℕ → List ℕ → Type 0
NoBits rows halves words =
    (half row bit : ℕ) → half < halves → row < rows → bit < 64 → IsSet words (word_at rows half row) bit → ⊥
