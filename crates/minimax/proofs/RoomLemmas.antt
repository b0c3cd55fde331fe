-- What a table of rooms keeps.
use Rattle.std.proofs.Common.{◌≡◌, ℕ, ◌<◌, ◌≤◌, Bool, true, false, Option, Some, None, List, length, refl, sym, ◌∙◌, subst, inl, inr}
use Rattle.std.specs.Prelude.{IsSome, if◌then◌else◌}
use Rattle.std.proofs.lemmas.Bool.{cases_lt}
use Rattle.items.specs.Game.{GameNumbers}
use Rattle.items.specs.Packable.{IsRoom}
use Rattle.loads.specs.Position.{are_equal}
use Rattle.loads.specs.declared.position.Position.{Position}
use Rattle.transposition.specs.Bounded.{Puts, PutsForOther, SameEntries, found}
use Rattle.minimax.specs.Rooms.{AreRooms}
use Rattle.minimax.proofs.FreshLemmas.{are_equal-told}

pub AreRooms-same : (game : GameNumbers) (old new : List (Position × ℕ)) → SameEntries are_equal old new → AreRooms game old → AreRooms game new
AreRooms-same game old new same rooms p room told = rooms p room (sym (same.values p) ∙ told)

-- the room that is told is the one that was put, or was there
told_room : (game : GameNumbers) (old : List (Position × ℕ)) (key p : Position) (put room : ℕ) (b : Bool) (o : Option ℕ) → are_equal key p ≡ b
    → (if b then Some put else o) ≡ Some room → (o ≡ Some room → IsRoom game p.items room) → IsRoom game key.items put → IsRoom game p.items room
told_room game old key p put room true o same told before is =
    let equal : put ≡ room = cc in
    subst (IsRoom game p.items) equal (subst (λ (q : Position). IsRoom game q.items put) (are_equal-told key p same) is)
told_room game old key p put room false o same told before is = before told

AreRooms-put : (game : GameNumbers) (old new : List (Position × ℕ)) (key : Position) (put more : ℕ) → Puts are_equal old new key put more → IsRoom game key.items put
    → AreRooms game old → AreRooms game new
AreRooms-put game old new key put more puts is rooms p room told =
    told_room game old key p put room (are_equal key p) (found are_equal old p) refl (sym (puts.values p) ∙ told) (rooms p room) is

not_dropped : (game : GameNumbers) (p : Position) (room : ℕ) (b : Bool) (o : Option ℕ) → (o ≡ Some room → IsRoom game p.items room)
    → (if b then None else o) ≡ Some room → IsRoom game p.items room
not_dropped game p room true o before told = let no : None ≡ Some room = told in cc
not_dropped game p room false o before told = before told

AreRooms-put_for_other : (game : GameNumbers) (old new : List (Position × ℕ)) (key dropped : Position) (put : ℕ) → PutsForOther are_equal old new key put dropped
    → IsRoom game key.items put → AreRooms game old → AreRooms game new
AreRooms-put_for_other game old new key dropped put puts is rooms p room told =
    told_room game old key p put room (are_equal key p) (if are_equal dropped p then None else found are_equal old p) refl (sym (puts.values p) ∙ told)
    (not_dropped game p room (are_equal dropped p) (found are_equal old p) (rooms p room)) is

by_entry : (game : GameNumbers) (old new : List (Position × ℕ)) (key : Position) (put capacity : ℕ) (o : Option ℕ) → found are_equal old key ≡ o
    → (IsSome (found are_equal old key) → Puts are_equal old new key put 0)
    → (found are_equal old key ≡ None → length old < capacity → Puts are_equal old new key put 1)
    → (found are_equal old key ≡ None → capacity ≤ length old → (dropped : Position) × PutsForOther are_equal old new key put dropped)
    → IsRoom game key.items put → AreRooms game old → AreRooms game new
by_entry game old new key put capacity (Some told) e present below full is rooms = AreRooms-put game old new key put 0 (present (subst IsSome (sym e) refl)) is rooms
by_entry game old new key put capacity None e present below full is rooms = elim (cases_lt (length old) capacity) [
  | inl l ↦ AreRooms-put game old new key put 1 (below e l) is rooms
  | inr m ↦ let other = full e m in AreRooms-put_for_other game old new key other.0 put other.1 is rooms
]

-- after a room was put
pub AreRooms-with : (game : GameNumbers) (old new : List (Position × ℕ)) (key : Position) (put capacity : ℕ)
    → (IsSome (found are_equal old key) → Puts are_equal old new key put 0)
    → (found are_equal old key ≡ None → length old < capacity → Puts are_equal old new key put 1)
    → (found are_equal old key ≡ None → capacity ≤ length old → (dropped : Position) × PutsForOther are_equal old new key put dropped)
    → IsRoom game key.items put → AreRooms game old → AreRooms game new
AreRooms-with game old new key put capacity present below full is rooms =
    by_entry game old new key put capacity (found are_equal old key) refl present below full is rooms
