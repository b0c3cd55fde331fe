use Rattle.std.specs.Prelude.{◌≡◌, ◌↔◌, ℕ, ◌+◌, ◌≤◌, ◌⊎◌, List, [], ◌∷◌, length, All, Contains}
use Rattle.items.specs.Game.{GameNumbers}
use Rattle.loads.specs.Descending.{IsDescending}
use Rattle.loads.specs.Loads.{loads_after}
pub use Rattle.reach_planes.specs.Reached.{ItemsSent, sent, totals, HasTotals, AreLoadsOf, IsReached}

-- as many loads as the game has bins, descending, none above the capacity
pub record FitOffline (game : GameNumbers) (loads : List ℕ) : Type 0 where
  pub one_each : length loads ≡ game.bins
  pub descending : IsDescending loads
  pub fits : All (λ load. load ≤ game.capacity) loads

-- the members of a set are exactly the sorted loads of assignments of the items
pub record IsReachOf (game : GameNumbers) (items : List ℕ) (members : List (List ℕ)) : Type 0 where
  pub exact : (loads : List ℕ) → Contains members loads ↔ IsReached game items loads

-- it holds of some list
abbrev pub AnyOf : (List ℕ → Type 0) → List (List ℕ) → Type 0
AnyOf P [] = ⊥
AnyOf P (x ∷ xs) = P x ⊎ AnyOf P xs

-- one of the loads has room for the item
abbrev pub HasRoom : ℕ → ℕ → List ℕ → Type 0
HasRoom capacity size loads = (load : ℕ) × Contains loads load × (load + size ≤ capacity)

-- these are the loads after the item went to a load that has room for it
abbrev pub IsAfter : ℕ → ℕ → List ℕ → List ℕ → Type 0
IsAfter capacity size after before =
    (load : ℕ) × Contains before load × (load + size ≤ capacity) × (after ≡ loads_after before load size)

-- the least of the loads
pub record IsLeast (loads : List ℕ) (least : ℕ) : Type 0 where
  pub member : Contains loads least
  pub bound : All (λ load. least ≤ load) loads
