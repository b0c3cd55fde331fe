-- A strategy at another target: for the adversary at one that is not greater, for the algorithm at one that is not
-- smaller.
use Rattle.std.specs.Prelude.{ℕ, ◌+◌, Bool, true, false, nat_le, nat_lt, if◌then◌else◌, List, [], ◌∷◌, ◌++◌}
use Rattle.std.specs.Prelude.{Option, Some, None, option_map, count_by, length, map, slice_get, take}
use Rattle.std.specs.List.{concat, filter_map, list_all, range_with_len}
use Rattle.std.specs.Option.{option_and_then}
use Rattle.items.specs.Game.{GameNumbers, numbers}
use Rattle.strategy_text.specs.declared.node.AdvNode.{AdvNode}
use Rattle.strategy_text.specs.declared.node.Nodes.{Nodes}
use Rattle.strategy_text.specs.declared.node.Nodes.TheVariants.{Adversary, Algorithm}
use Rattle.strategy_text.specs.declared.node.Placement.{Placement}
use Rattle.strategy_text.specs.declared.node.Step.{Step}
use Rattle.strategy_text.specs.declared.node.Step.TheVariants.{Send, Burst}
use Rattle.strategy_text.specs.declared.node.Strategy.{Strategy}
use Rattle.strategy_text.specs.declared.node.Then.{Then}
use Rattle.strategy_text.specs.declared.node.Then.TheVariants.{Over, To}
use Rattle.adversary_graph.specs.Play.{beyond, end_packing, without_all}
use Rattle.adversary_graph.specs.Renamed.{renamed_then}

-- the game with another target
abbrev pub with_target : ℕ → GameNumbers → GameNumbers
with_target target game = numbers game.bins game.capacity target

-- ---- which nodes stay, and their numbers

-- a node stays where each of its loads is below the target
abbrev pub stays : ℕ → AdvNode → Bool
stays target node = list_all (λ load. nat_lt load target) node.loads

-- the new number of a node: how many before it stay
abbrev pub new_number : ℕ → List AdvNode → ℕ → ℕ
new_number target nodes number = count_by (stays target) (take number nodes)

-- ---- what a node sends and leads to

-- what follows: the play is over where the load with the sent item reaches the target
abbrev pub weakened_placement : ℕ → (ℕ → ℕ) → ℕ → Placement → Placement
weakened_placement target name size placement = record placement {
  next = if nat_le target (placement.load + size) then Over else renamed_then name placement.next;
}

abbrev pub is_over : Then → Bool
is_over Over = true
is_over (To child) = false

abbrev pub all_over : List Placement → Bool
all_over placements = list_all (λ placement. is_over placement.next) placements

-- bins without what they have beyond the items, taken out in ascending order, each from the first bin that has one
abbrev pub packing_for : GameNumbers → List ℕ → List (List ℕ) → List (List ℕ)
packing_for game items bins = without_all (beyond game (concat bins) items) bins

-- the packing of a sending node with this end packing, these items with the sent one, and these placements: its own;
-- where it has none and all placements are over, one that is made from the end packing
abbrev pub weakened_pack : GameNumbers → Option (List (List ℕ)) → List ℕ → List Placement → Option (List (List ℕ))
    → Option (List (List ℕ))
weakened_pack game end items placements (Some pack) = Some pack
weakened_pack game end items placements None =
    if all_over placements then option_map (packing_for game items) end else None

-- one item of this size, with these placements, after these items
abbrev pub sending : GameNumbers → Option (List (List ℕ)) → List ℕ → ℕ → Option (List (List ℕ)) → List Placement → Step
sending game end items size pack placements =
    Send size (weakened_pack game end (items ++ size ∷ []) placements pack) placements

-- what is sent after these items, by a node with this end packing, where the nodes have new names
abbrev pub weakened_step : GameNumbers → ℕ → (ℕ → ℕ) → Option (List (List ℕ)) → List ℕ → Step → Step
weakened_step game target name end items (Send size pack placements) =
    sending game end items size pack (map (weakened_placement target name size) placements)
weakened_step game target name end items (Burst count size pack) = Burst count size pack

-- the node, with the same position
abbrev pub weakened_node : GameNumbers → ℕ → (ℕ → ℕ) → Option (List (List ℕ)) → AdvNode → AdvNode
weakened_node game target name end node = record node { step = weakened_step game target name end node.items node.step }

-- ---- strategies

-- what the node becomes, if it stays
abbrev pub kept_node : GameNumbers → ℕ → (ℕ → ℕ) → Option (List (List ℕ)) → AdvNode → Option AdvNode
kept_node game target name end node =
    if stays target node then Some (weakened_node game target name end node) else None

-- what the node of this number becomes, if it stays
abbrev pub kept_at : GameNumbers → ℕ → List AdvNode → ℕ → Option AdvNode
kept_at game target nodes number =
    option_and_then (kept_node game target (new_number target nodes) (end_packing nodes (number + 1) number))
    (slice_get nodes number)

-- the nodes that stay, in their order
unfoldable pub weakened_adversary : GameNumbers → ℕ → List AdvNode → List AdvNode
weakened_adversary game target nodes = filter_map (kept_at game target nodes) (range_with_len 0 (length nodes))

-- the nodes of the algorithm stay as they are
abbrev pub weakened_nodes : GameNumbers → ℕ → Nodes → Nodes
weakened_nodes game target (Adversary nodes) = Adversary (weakened_adversary game target nodes)
weakened_nodes game target (Algorithm nodes) = Algorithm nodes

-- the strategy of the same side and format at the other target
abbrev pub weakened_strategy : ℕ → Strategy → Strategy
weakened_strategy target strategy = record {
  format = strategy.format;
  game = with_target target strategy.game;
  nodes = weakened_nodes strategy.game target strategy.nodes;
}
