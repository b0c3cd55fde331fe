-- What the private contracts of a play cite; nothing here has to be believed.
use Rattle.std.specs.Prelude.{◌≡◌, ℕ, ◌+◌, ◌<◌, List, ◌++◌, Option, Some, None, slice_get}
use Rattle.items.specs.Game.{GameNumbers}
use Rattle.items.specs.Multiset.{Same}
use Rattle.online_play.specs.Algorithm.{bins_of, run}
use Rattle.online_play.specs.Laws.{ComesTo}
use Rattle.strategy_text.specs.declared.node.AdvNode.{AdvNode}
use Rattle.adversary_graph.specs.Nodes.{packing_of, position_of, sent_items}
use Rattle.adversary_graph.specs.Play.{End, end_at, end_by_step, end_packing}
use Rattle.adversary_graph.specs.Pools.{Pool}
use Rattle.adversary_graph.specs.declared.plays.Course.{Course}

-- the bins and the loads of a play so far are those of the algorithm
pub record IsCourse (game : GameNumbers) (answer : List ℕ → ℕ) (course : Course) : Type 0 where
  pub bins : course.bins ≡ bins_of answer course.items
  pub actual : course.actual ≡ run game answer course.items

-- the items so far led the algorithm to the position of the node of this number
abbrev pub StandsReady : GameNumbers → (List ℕ → ℕ) → List AdvNode → ℕ → List ℕ → Type 0
StandsReady game answer nodes number items =
    (node : AdvNode) × (slice_get nodes number ≡ Some node) × ComesTo game answer items (position_of node)

-- the play goes on at a child that has a lower number, or ends
abbrev pub GoesOn : GameNumbers → (List ℕ → ℕ) → List AdvNode → ℕ → Option ℕ → List ℕ
    → (ℕ → List ℕ → Option End) → Option End → Type 0
GoesOn game answer nodes number (Some child) items end_of end =
    (child < number) × StandsReady game answer nodes child items × (end ≡ end_of child items)
GoesOn game answer nodes number None items end_of end = end ≡ Some (end_at items number)

-- one step of a play, whatever comes after it
abbrev pub IsStep : GameNumbers → (List ℕ → ℕ) → List AdvNode → ℕ → List ℕ → Option ℕ → List ℕ → Type 0
IsStep game answer nodes number history next items =
    (node : AdvNode) × (slice_get nodes number ≡ Some node)
    × ((end_of : ℕ → List ℕ → Option End)
    → GoesOn game answer nodes number next items end_of (end_by_step game answer end_of number history node.step))

-- the items are those of the node of this number with all that it sends
abbrev pub IsEnd : Pool → ℕ → List ℕ → Type 0
IsEnd pool number items =
    (node : AdvNode) × (slice_get pool.nodes number ≡ Some node) × Same items (node.items ++ sent_items node.step)

-- the other node's packing is the end packing of the node of this number
abbrev pub ShowsEndPacking : List AdvNode → ℕ → ℕ → Type 0
ShowsEndPacking nodes number other =
    (node : AdvNode) × (slice_get nodes other ≡ Some node)
    × (bins : List (List ℕ)) × (packing_of node.step ≡ Some bins) × (end_packing nodes (number + 1) number ≡ Some bins)
