-- What the private contracts of weakening cite; nothing here has to be believed.
use Rattle.std.specs.Prelude.{◌≡◌, ℕ, ◌+◌, ◌<◌, ◌≤◌, List, Option, Some, None, IfSome, length, slice_get}
use Rattle.std.specs.Prelude.{slice_index, All}
use Rattle.std.specs.List.{concat}
use Rattle.items.specs.Multiset.{count}
use Rattle.strategy_text.specs.Spelling.{most_nodes}
use Rattle.strategy_text.specs.declared.node.AdvNode.{AdvNode}
use Rattle.strategy_text.specs.declared.node.Nodes.{Nodes}
use Rattle.strategy_text.specs.declared.node.Nodes.TheVariants.{Adversary, Algorithm}
use Rattle.strategy_text.specs.declared.node.Placement.{Placement}
use Rattle.strategy_text.specs.declared.node.Step.{Step}
use Rattle.adversary_graph.specs.Nodes.{packing_of, placements_of}
use Rattle.adversary_graph.specs.Play.{child_of, end_packing, first_child}
use Rattle.adversary_graph.specs.Playing.{ShowsEndPacking}
use Rattle.strategy_transfer.specs.Weakened.{new_number}

-- each child is below this number
abbrev pub LeadsBelow : ℕ → List Placement → Type 0
LeadsBelow number placements = All (λ placement. IfSome (child_of placement.next) (λ child. child < number)) placements

-- no size stands more often in the bins than a game has room for
abbrev pub AreFew : List (List ℕ) → Type 0
AreFew bins = (x : ℕ) → count x (concat bins) ≤ 960

-- a child of the first placement that has one, below this number
abbrev pub HasFirstChild : ℕ → Step → Type 0
HasFirstChild number step = (child : ℕ) × (first_child (placements_of step) ≡ Some child) × (child < number)

-- children stand before their parents, a node without a packing has one, and end packings are of the game
pub record AreLinked (nodes : List AdvNode) : Type 0 where
  pub few : length nodes ≤ most_nodes
  pub back : (number : ℕ) (node : AdvNode) → slice_get nodes number ≡ Some node
      → LeadsBelow number (placements_of node.step)
  pub first : (number : ℕ) (node : AdvNode) → slice_get nodes number ≡ Some node → packing_of node.step ≡ None
      → HasFirstChild number node.step
  pub ends : (number : ℕ) (node : AdvNode) (bins : List (List ℕ)) → slice_get nodes number ≡ Some node
      → end_packing nodes (number + 1) number ≡ Some bins → AreFew bins

abbrev pub CanWeakenNodes : Nodes → Type 0
CanWeakenNodes (Adversary nodes) = AreLinked nodes
CanWeakenNodes (Algorithm nodes) = Unit {0}

-- for each node that stands before this number, the number of the node whose packing is its end packing
pub record ShowEndPackings (nodes : List AdvNode) (number : ℕ) (packed : List ℕ) : Type 0 where
  pub one_each : length packed ≡ number
  pub each : (k : ℕ) → k < number → ShowsEndPacking nodes k (slice_index packed k)

-- the number of the node whose packing is the end packing of the node of this number, from those before it
abbrev pub packed_number : List ℕ → ℕ → Option (List (List ℕ)) → Option ℕ → ℕ
packed_number packed number (Some bins) child = number
packed_number packed number None None = number
packed_number packed number None (Some child) = slice_index packed child

-- the new numbers of the nodes before this one
pub record IsNumbered (target : ℕ) (nodes : List AdvNode) (number : ℕ) (numbers : List ℕ) : Type 0 where
  pub one_each : length numbers ≡ number
  pub each : (k : ℕ) → k < number → slice_index numbers k ≡ new_number target nodes k
