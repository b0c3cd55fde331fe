use Rattle.std.specs.Prelude.{ℕ, zero, suc, ◌+◌, ◌≤◌, Bool, IsTrue, List, [], ◌∷◌, ◌++◌, ◌⊎◌, Contains, replicate}
use Rattle.items.specs.Game.{GameNumbers}
use Rattle.items.specs.Packable.{Packable}
use Rattle.loads.specs.declared.position.Position.{Position}
use Rattle.loads.specs.After.{after}

-- an item of this size may be sent and, whichever load it goes to, it reaches the target or leads to a won position
pub record IsWinningSize (game : GameNumbers) (allowed : List ℕ → ℕ → Bool) (IsWonNext : Position → Type 0)
    (position : Position) (size : ℕ) : Type 0 where
  pub allows : IsTrue (allowed position.items size)
  pub may_come : Packable game (position.items ++ size ∷ [])
  pub each_load : (load : ℕ) → Contains position.loads load
      → (game.target ≤ load + size) ⊎ IsWonNext (after position load size)

-- the adversary wins from a position with at most so many items, each of a size that is allowed at the items before it
unfoldable pub Wins : GameNumbers → (List ℕ → ℕ → Bool) → ℕ → Position → Type 0
Wins game allowed zero position = ⊥
Wins game allowed (suc n) position = (size : ℕ) × IsWinningSize game allowed (Wins game allowed n) position size

-- the adversary wins from a position
abbrev pub IsWon : GameNumbers → (List ℕ → ℕ → Bool) → Position → Type 0
IsWon game allowed position = (n : ℕ) × Wins game allowed n position

-- the position before the first item
abbrev pub empty_position : GameNumbers → Position
empty_position game = record { loads = replicate game.bins 0; items = [] }
