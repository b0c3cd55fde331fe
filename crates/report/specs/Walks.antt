-- Walks through a strategy, and its depth.
use Rattle.std.specs.Prelude.{◌≡◌, ℕ, ◌+◌, ◌-◌, ◌≤◌, List, Some, Contains, length, slice_get}
use Rattle.strategy_text.specs.Text.{AnyNode, nodes_of}
use Rattle.strategy_text.specs.declared.node.Strategy.{Strategy}
use Rattle.report.specs.Ways.{Way, ends_after, goes_to, ways_of}

-- the node of this number has this way on
abbrev pub HasWay : List AnyNode → ℕ → Way → Type 0
HasWay nodes number way = (node : AnyNode) × (slice_get nodes number ≡ Some node) × Contains (ways_of node) way

-- a walk from the node of this number to its end, with so many items
pub data Walk (nodes : List AnyNode) : ℕ → ℕ → Type 0 where
  ends : (number items : ℕ) → HasWay nodes number (ends_after items) → Walk nodes number items
  goes_on : (number child items : ℕ) → HasWay nodes number (goes_to child) → Walk nodes child items
      → Walk nodes number (items + 1)

-- the greatest number of items on a walk from the node of this number
pub record IsDepthAt (nodes : List AnyNode) (number depth : ℕ) : Type 0 where
  pub walk : Walk nodes number depth
  pub greatest : (items : ℕ) → Walk nodes number items → items ≤ depth

-- the depth of a strategy: the greatest number of items on a walk from the root, which is its last node
abbrev pub IsDepth : Strategy → ℕ → Type 0
IsDepth strategy depth = IsDepthAt (nodes_of strategy.nodes) (length (nodes_of strategy.nodes) - 1) depth
