-- What an algorithm answers to a list of items.
use Rattle.std.specs.Prelude.{ℕ, ◌<◌, ◌≤◌, List, length, take}
use Rattle.items.specs.Game.{GameNumbers}
use Rattle.items.specs.Packable.{Packable}
use Rattle.online_play.specs.Algorithm.{bins_of, run}
use Rattle.match_player.specs.declared.answered.Answered.{Answered}

-- the first items of a list, so many of them, cannot be packed, and every shorter prefix can
pub record IsLeastUnpackable (game : GameNumbers) (items : List ℕ) (place : ℕ) : Type 0 where
  pub within : place ≤ length items
  pub unpackable : Packable game (take place items) → ⊥
  pub shorter : (fewer : ℕ) → fewer < place → Packable game (take fewer items)

-- the items, the bins that an algorithm gives to them, and the loads by bin number after the last
abbrev pub answered_by : GameNumbers → (List ℕ → ℕ) → List ℕ → Answered
answered_by game answer items = record { items = items; bins = bins_of answer items; loads = run game answer items }
