-- What the private contracts of measuring walks cite; nothing here has to be believed.
use Rattle.std.specs.Prelude.{◌≡◌, ◌≢◌, ℕ, ◌+◌, ◌<◌, ◌≤◌, List, [], ◌∷◌, Some, All, length, map, max, slice_get}
use Rattle.std.specs.Prelude.{slice_index, sum}
use Rattle.strategy_text.specs.Text.{AnyNode, items_of}
use Rattle.report.specs.Ways.{Way, ends_after, goes_to, ways_of}
use Rattle.report.specs.Walks.{IsDepthAt}

-- the most items of a walk of a legal strategy, and so of its depth
abbrev pub most_items : ℕ
most_items = 1913

-- how many items the longest walk along a way has, by the depths of the nodes
abbrev pub items_along : List ℕ → Way → ℕ
items_along depths (ends_after items) = items
items_along depths (goes_to child) = slice_index depths child + 1

-- the greatest of a number and those of a list
abbrev pub greatest : ℕ → List ℕ → ℕ
greatest x [] = x
greatest x (y ∷ ys) = greatest (max x y) ys

-- the depth of a node, by the depths of the nodes before it
abbrev pub depth_by : List ℕ → List Way → ℕ
depth_by depths ways = greatest 0 (map (items_along depths) ways)

-- the way leads to a node whose depth is known, or ends within the limit
abbrev pub IsKnown : List ℕ → Way → Type 0
IsKnown depths (ends_after items) = items ≤ most_items
IsKnown depths (goes_to child) = (child < length depths) × (slice_index depths child < most_items)

-- from a node of this number and volume the way ends within the limit, or leads to an earlier node that has more volume
abbrev pub Leads : List AnyNode → ℕ → ℕ → Way → Type 0
Leads nodes number volume (ends_after items) = items + volume ≤ most_items
Leads nodes number volume (goes_to child) =
    (child < number) × (later : AnyNode) × (slice_get nodes child ≡ Some later) × (volume + 1 ≤ sum (items_of later))

-- the node of this number has a way on, and each of its ways leads on
pub record LeadsOn (nodes : List AnyNode) (number : ℕ) (node : AnyNode) : Type 0 where
  pub some : ways_of node ≢ []
  pub each : All (Leads nodes number (sum (items_of node))) (ways_of node)

unfoldable pub EachLeadsOn : List AnyNode → Type 0
EachLeadsOn nodes = (number : ℕ) (node : AnyNode) → slice_get nodes number ≡ Some node → LeadsOn nodes number node

-- the depth of a node, with its volume within the limit
pub record IsMeasured (nodes : List AnyNode) (number depth : ℕ) (node : AnyNode) : Type 0 where
  pub depth_at : IsDepthAt nodes number depth
  pub within : depth + sum (items_of node) ≤ most_items

-- the depths of the first nodes
unfoldable pub AreDepths : List AnyNode → List ℕ → Type 0
AreDepths nodes depths =
    (number : ℕ) (node : AnyNode) → number < length depths → slice_get nodes number ≡ Some node
    → IsMeasured nodes number (slice_index depths number) node
