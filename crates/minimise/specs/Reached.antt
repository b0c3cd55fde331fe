-- Positions that differ, and nodes that are reached, by positions and references alone.
use Rattle.std.specs.Prelude.{◌≡◌, ℕ, ◌-◌, ◌<◌, List, Some, length, slice_get, Contains}
use Rattle.loads.specs.declared.position.Position.{Position}

-- no position stands at two numbers
abbrev pub AreDistinct : List Position → Type 0
AreDistinct positions =
    (number other : ℕ) (position : Position) → slice_get positions number ≡ Some position
    → slice_get positions other ≡ Some position → number ≡ other

-- references lead from one node to another, in any number of steps
pub data Reaches (references : List (List ℕ)) : ℕ → ℕ → Type 0 where
  here : (number : ℕ) → Reaches references number number
  further : (number child other : ℕ) (children : List ℕ) → slice_get references number ≡ Some children
      → Contains children child → Reaches references child other → Reaches references number other

-- each node is reached from the last one
abbrev pub AreReached : List (List ℕ) → Type 0
AreReached references = (number : ℕ) → number < length references → Reaches references (length references - 1) number
