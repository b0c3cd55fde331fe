use Rattle.std.specs.Prelude.{◌≡◌, ◌==◌, ◌&&◌, Bool, ℕ, List, [], Some, sum, All, Contains, slice_get}
use Rattle.std.specs.Cmp.Lexicographic.{pointwise}
use Rattle.std.specs.List.Sorted.{IsNonDecreasing}
use Rattle.loads.specs.declared.position.Position.{Position}

-- the position of these loads and items
abbrev pub position : List ℕ → List ℕ → Position
position loads items = record { loads = loads; items = items }

-- whether two positions have the same loads and the same items
abbrev pub are_equal : Position → Position → Bool
are_equal first second = pointwise ◌==◌ first.loads second.loads && pointwise ◌==◌ first.items second.items

-- the items ascend, each is one of the sizes, and their sum is the sum of the loads
pub record AreItemsOf (sizes loads items : List ℕ) : Type 0 where
  pub ascending : IsNonDecreasing items
  pub allowed : All (Contains sizes) items
  pub total : sum items ≡ sum loads

-- all loads are 0 and there are no items
pub record IsEmptyPosition (position : Position) : Type 0 where
  pub loads : All (λ load. load ≡ 0) position.loads
  pub items : position.items ≡ []

-- the earlier node of this number, counted from 0, has this position
abbrev pub StandsAt : List Position → ℕ → Position → Type 0
StandsAt earlier child position = slice_get earlier child ≡ Some position
