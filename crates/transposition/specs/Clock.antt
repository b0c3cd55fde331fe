-- Serves private contracts: the marks of a table's entries, and the hand that goes round them.
use Rattle.std.specs.Prelude.{◌≡◌, ◌==◌, ℕ, ◌+◌, Bool, true, false, List, length, slice_index_or, slice_set, take}
use Rattle.std.specs.Prelude.{IsSome, None, if◌then◌else◌}
use Rattle.transposition.specs.Bounded.{found}

-- which places have a mark, the place at which the hand stands, and how many more places there is room for
pub record Marks : Type 0 where
  pub marks : List Bool
  pub hand : ℕ
  pub room : ℕ

abbrev pub marks_at : List Bool → ℕ → ℕ → Marks
marks_at marks hand room = record { marks = marks; hand = hand; room = room }

-- the place that follows on the way round
abbrev pub next_place : ℕ → ℕ → ℕ
next_place number place = if place + 1 == number then 0 else place + 1

-- the hand clears the mark at its place and goes on
abbrev pub passed_on : Marks → Marks
passed_on clock =
    marks_at (slice_set clock.marks clock.hand false) (next_place (length clock.marks) clock.hand) clock.room

-- the place at which the hand stands has a mark
abbrev pub IsMarked : Marks → Type 0
IsMarked clock = slice_index_or clock.marks clock.hand false ≡ true

-- the hand went on over marks alone
pub data PassesOver : Marks → Marks → Type 0 where
  nothing : (clock : Marks) → PassesOver clock clock
  one_more : (before clock : Marks) → PassesOver before clock → IsMarked clock → PassesOver before (passed_on clock)

-- the hand went on over marks to the first place without one
pub record StopsAt (before clock : Marks) (place : ℕ) : Type 0 where
  pub passes : PassesOver before clock
  pub unmarked : IsMarked clock → ⊥
  pub here : place ≡ clock.hand

-- one key of the first entries lost its entry, and each other key has what it had
pub record Drops {K V : Type 0} (eq : K → K → Bool) (first : ℕ) (old new : List (K × V)) (dropped : K) : Type 0 where
  pub had : IsSome (found eq (take first old) dropped)
  pub values : (other : K) → found eq new other ≡ (if eq dropped other then None else found eq old other)
