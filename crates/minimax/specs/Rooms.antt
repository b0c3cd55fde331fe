-- Serves private contracts: what a table of rooms keeps.
use Rattle.std.specs.Prelude.{◌≡◌, ℕ, List, Some}
use Rattle.items.specs.Game.{GameNumbers}
use Rattle.items.specs.Packable.{IsRoom}
use Rattle.loads.specs.Position.{are_equal}
use Rattle.loads.specs.declared.position.Position.{Position}
use Rattle.transposition.specs.Bounded.{found}

-- each entry has the room of its items
abbrev pub AreRooms : GameNumbers → List (Position × ℕ) → Type 0
AreRooms game entries =
    (position : Position) (room : ℕ) → found are_equal entries position ≡ Some room → IsRoom game position.items room
