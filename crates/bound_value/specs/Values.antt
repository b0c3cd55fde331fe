use Rattle.std.specs.Prelude.{ℕ, ◌<◌, Option, Some, None}
use Rattle.items.specs.Game.{HasTarget, numbers}
use Rattle.online_play.specs.Algorithm.{ForcesEvery}

-- a target from the capacity and 1 to twice the capacity, at which every algorithm is forced
pub record IsForced (bins capacity target : ℕ) : Type 0 where
  pub of_game : HasTarget capacity target
  pub forces : ForcesEvery (numbers bins capacity target)

-- the greatest of these targets
pub record IsGreatestForced (bins capacity target : ℕ) : Type 0 where
  pub forced : IsForced bins capacity target
  pub greatest : (larger : ℕ) → target < larger → IsForced bins capacity larger → ⊥

-- the value of so many bins of a capacity: the greatest target from the capacity and 1 to twice the capacity at which
-- every algorithm is forced, or none where there is no such target
abbrev pub IsValueOf : ℕ → ℕ → Option ℕ → Type 0
IsValueOf bins capacity (Some target) = IsGreatestForced bins capacity target
IsValueOf bins capacity None = (target : ℕ) → IsForced bins capacity target → ⊥
