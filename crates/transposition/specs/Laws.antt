use Rattle.std.specs.Prelude.{◌≡◌, ℕ, ◌<◌, IsSome, None, List, length, Contains}
use Rattle.loads.specs.declared.position.Position.{Position}
use Rattle.loads.specs.Position.{are_equal}
use Rattle.transposition.specs.declared.verdict.Verdict.{Verdict}
use Rattle.transposition.specs.Bounded.{bounded, IsBoundedMap}
use Rattle.transposition.specs.Memo.{verdict_of}

-- entries of some positions of a list, to which another position of the list is new, are fewer than the list is long
abbrev pub NewPositionsFindRoom : Type 0
NewPositionsFindRoom =
    (entries : List (Position × Verdict)) (capacity : ℕ) (positions : List Position) (position : Position)
    → IsBoundedMap are_equal (bounded entries capacity)
    → ((one : Position) → IsSome (verdict_of entries one) → Contains positions one)
    → Contains positions position → verdict_of entries position ≡ None → length entries < length positions
