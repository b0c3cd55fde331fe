-- Strategies whose nodes differ in numbers, repeats and nodes that are not reached alone.
use Rattle.std.specs.Prelude.{◌≡◌, ℕ, List, Some, All, Contains, map, slice_get}
use Rattle.loads.specs.declared.position.Position.{Position}
use Rattle.minimise.specs.Canonical.{kept, representatives}

-- a node of the other strategy that stands for its position and is this node with its references renamed, each to one
-- of the same position
pub record HasTwin {N : Type 0} (position_of : N → Position) (references_of : N → List ℕ) (renamed : (ℕ → ℕ) → N → N)
    (one other : List N) (node : N) : Type 0 where
  pub number : ℕ
  pub name : ℕ → ℕ
  pub there : slice_get other number ≡ Some (renamed name node)
  pub stands : slice_get (representatives (map position_of other)) number ≡ Some number
  pub leads : All
      (λ child. slice_get (map position_of one) child ≡ slice_get (map position_of other) (name child))
      (references_of node)

-- each node that the canonical form of the one keeps has a twin in the other
abbrev pub Agree : {N : Type 0} → (N → Position) → (N → List ℕ) → ((ℕ → ℕ) → N → N) → List N → List N → Type 0
Agree {N} position_of references_of renamed one other =
    (number : ℕ) (node : N) → Contains (kept (map position_of one) (map references_of one)) number
    → slice_get one number ≡ Some node → HasTwin position_of references_of renamed one other node
