-- What serves private contracts alone: words of 64 bits, shifted and joined.
use Rattle.std.specs.Prelude.{◌≡◌, ℕ, ◌+◌, ◌*◌, ◌/◌, ◌%◌, ◌^◌, ◌<◌, ◌≤◌}
use Rattle.std.specs.Prelude.{◌⊎◌, List, slice_index, bit_and, bit_or}
use Rattle.std.specs.Int.{bit_at}

-- a bit of a word of the list is 1
abbrev pub IsSet : List ℕ → ℕ → ℕ → Type 0
IsSet words i bit = bit_at (slice_index words i) bit ≡ 1

-- the bits of a word moved up, then down, and those of a mask kept
abbrev pub moved : ℕ → ℕ → ℕ → ℕ → ℕ
moved up down mask word = bit_and (word * 2 ^ up % 2 ^ 64 / 2 ^ down) mask

-- the words from a place on are joined by or with moved words of another list; the other words stay
pub record AreJoined (up down mask count to from : ℕ) (source before after : List ℕ) : Type 0 where
  pub joined : (k : ℕ) → k < count
      → slice_index after (to + k)
      ≡ bit_or (slice_index before (to + k)) (moved up down mask (slice_index source (from + k)))
  pub others : (i : ℕ) → (i < to) ⊎ (to + count ≤ i) → slice_index after i ≡ slice_index before i

-- four words with their bits moved, lane by lane
abbrev pub HasMovedLanes : ℕ → ℕ → ℕ → List ℕ → List ℕ → Type 0
HasMovedLanes up down mask words result =
    (k : ℕ) → k < 4 → slice_index result k ≡ moved up down mask (slice_index words k)
