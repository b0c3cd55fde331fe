use Rattle.std.specs.Prelude.{◌≡◌, ◌≢◌, ◌↔◌, ℕ, ◌-◌, Bool, List, length, Contains, AllPairs}
use Rattle.items.specs.Game.{GameNumbers}
use Rattle.items.specs.Multiset.{sizes_of}
use Rattle.loads.specs.declared.position.Position.{Position}
use Rattle.monotone.specs.declared.path.PathMove.{PathMove}
use Rattle.loads.specs.Wins.{empty_position}
use Rattle.monotone.specs.Paths.{IsLegalPath, position_after}
use Rattle.monotone.specs.Passes.{allowed_in}

-- a position is reachable: a legal path leads to it
abbrev pub IsReachable : GameNumbers → (List ℕ → ℕ → Bool) → Position → Type 0
IsReachable game allowed position =
    (path : List PathMove) × IsLegalPath game allowed path × (position ≡ position_after (empty_position game) path)

-- the reachable positions, each once
pub record AreReachable (game : GameNumbers) (allowed : List ℕ → ℕ → Bool) (positions : List Position) : Type 0 where
  pub exact : (position : Position) → Contains positions position ↔ IsReachable game allowed position
  pub once : AllPairs ◌≢◌ positions

-- how many positions are reachable
abbrev pub CountsReachable : GameNumbers → (List ℕ → ℕ → Bool) → ℕ → Type 0
CountsReachable game allowed number = (positions : List Position) × AreReachable game allowed positions
    × (length positions ≡ number)

-- how many positions are reachable in a pass of the whole game
abbrev pub CountsReachableOfPass : GameNumbers → ℕ → ℕ → Type 0
CountsReachableOfPass game pass number = CountsReachable game (allowed_in (sizes_of game) pass) number

-- how many positions are reachable in the last pass, in which every size is allowed
abbrev pub CountsAllReachable : GameNumbers → ℕ → Type 0
CountsAllReachable game number = CountsReachableOfPass game (game.capacity - 1) number
