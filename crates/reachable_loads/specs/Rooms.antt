-- Serves contracts: a room between two sizes.
use Rattle.std.specs.Prelude.{ℕ, ◌≤◌, List, [], ◌∷◌, ◌++◌, All}
use Rattle.items.specs.Game.{GameNumbers}
use Rattle.items.specs.Multiset.{IsSize}
use Rattle.items.specs.Packable.{Packable}

-- An item of the least size may come, where it is no 0, and none that is larger than the most. Where any may come, the
-- items have sizes of the game.
pub record IsRoomBetween (game : GameNumbers) (items : List ℕ) (least most : ℕ) : Type 0 where
  pub order : least ≤ most
  pub within : most ≤ game.capacity
  pub may_come : 1 ≤ least → Packable game (items ++ least ∷ [])
  pub bound : (size : ℕ) → Packable game (items ++ size ∷ []) → size ≤ most
  pub sizes : 1 ≤ most → All (IsSize game.capacity) items
