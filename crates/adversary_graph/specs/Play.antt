use Rattle.std.specs.Prelude.{◌==◌, ℕ, zero, suc, ◌+◌, ◌-◌, ◌≤◌, List, [], ◌∷◌, ◌++◌, if◌then◌else◌}
use Rattle.std.specs.Prelude.{Option, Some, None, option_map, replicate, slice_get, slice_index, Any}
use Rattle.std.specs.List.{concat, flat_map}
use Rattle.std.specs.Option.{option_and_then, option_or, unwrap_or}
use Rattle.items.specs.Game.{GameNumbers}
use Rattle.items.specs.Multiset.{count, sizes_of}
use Rattle.items.specs.Packable.{Packable, IsPacking}
use Rattle.online_play.specs.Algorithm.{bins_of, run}
use Rattle.packing_witness.specs.Edits.{without}
use Rattle.strategy_text.specs.declared.node.AdvNode.{AdvNode}
use Rattle.strategy_text.specs.declared.node.Placement.{Placement}
use Rattle.strategy_text.specs.declared.node.Step.{Step}
use Rattle.strategy_text.specs.declared.node.Step.TheVariants.{Send, Burst}
use Rattle.strategy_text.specs.declared.node.Then.{Then}
use Rattle.strategy_text.specs.declared.node.Then.TheVariants.{Over, To}
use Rattle.adversary_graph.specs.Nodes.{packing_of, placements_of}

-- ---- where a play ends

-- what follows at a load: what the first placement of this load says
abbrev pub next_at : ℕ → List Placement → Option Then
next_at load [] = None
next_at load (placement ∷ placements) =
    if load == placement.load then Some placement.next else next_at load placements

-- the load, before the item, of the bin that an algorithm answers for an item of this size after a history
abbrev pub load_hit : GameNumbers → (List ℕ → ℕ) → List ℕ → ℕ → ℕ
load_hit game answer history size = slice_index (run game answer history) (answer (history ++ size ∷ []))

-- the end of a play: all items that were sent, and the number of the node that sent the last of them
pub record End : Type 0 where
  pub items : List ℕ
  pub number : ℕ

abbrev pub end_at : List ℕ → ℕ → End
end_at items number = record { items = items; number = number }

-- the play is over after the item of the node of this number, or goes on at a child
abbrev pub goes_on : (ℕ → List ℕ → Option End) → ℕ → List ℕ → Option Then → Option End
goes_on end_of number items None = None
goes_on end_of number items (Some Over) = Some (end_at items number)
goes_on end_of number items (Some (To child)) = end_of child items

-- the end of a play that comes to a node's step after a history
abbrev pub end_by_step : GameNumbers → (List ℕ → ℕ) → (ℕ → List ℕ → Option End)
    → ℕ → List ℕ → Step → Option End
end_by_step game answer end_of number history (Send size pack placements) =
    goes_on end_of number (history ++ size ∷ []) (next_at (load_hit game answer history size) placements)
end_by_step game answer end_of number history (Burst times size pack) =
    Some (end_at (history ++ replicate times size) number)

-- the end of a play that comes to the node of this number after a history, and passes at most so many nodes from there
unfoldable pub end_of : GameNumbers → (List ℕ → ℕ) → List AdvNode → ℕ → ℕ → List ℕ → Option End
end_of game answer nodes zero number history = None
end_of game answer nodes (suc n) number history =
    option_and_then (λ node. end_by_step game answer (end_of game answer nodes n) number history node.step)
    (slice_get nodes number)

-- ---- its packing

abbrev pub child_of : Then → Option ℕ
child_of Over = None
child_of (To child) = Some child

-- the child of the first placement that has one
abbrev pub first_child : List Placement → Option ℕ
first_child [] = None
first_child (placement ∷ placements) = option_or (child_of placement.next) (first_child placements)

-- the end packing of the node of this number: its own packing; where it has none, the end packing of the child of its
-- first placement that has a child; through at most so many nodes
unfoldable pub end_packing : List AdvNode → ℕ → ℕ → Option (List (List ℕ))
end_packing nodes zero number = None
end_packing nodes (suc n) number =
    option_and_then
    (λ node. option_or (packing_of node.step)
    (option_and_then (end_packing nodes n) (first_child (placements_of node.step))))
    (slice_get nodes number)

-- the sizes of a game that stand more often in one list than in the other, each as often as it does so, ascending
abbrev pub beyond : GameNumbers → List ℕ → List ℕ → List ℕ
beyond game more items = flat_map (λ size. replicate (count size more - count size items) size) (sizes_of game)

-- the bins when each of these items, one after the other, is taken out of the first bin that has one
abbrev pub without_all : List ℕ → List (List ℕ) → List (List ℕ)
without_all [] bins = bins
without_all (item ∷ items) bins = without_all items (unwrap_or (without item bins) bins)

-- ---- the play

-- a play: the items that are sent, the bin of each, the loads by bin number after the last, and a packing of the items
pub record Play : Type 0 where
  pub items : List ℕ
  pub bins : List ℕ
  pub loads : List ℕ
  pub packing : List (List ℕ)

-- the play of an algorithm with these items, and with what these bins are without what they have beyond the items
abbrev pub play_with : GameNumbers → (List ℕ → ℕ) → List ℕ → List (List ℕ) → Play
play_with game answer items bins = record {
  items = items;
  bins = bins_of answer items;
  loads = run game answer items;
  packing = without_all (beyond game (concat bins) items) bins;
}

-- the play of an algorithm that has this end; its packing is made from the end packing of the last node
abbrev pub play_to : GameNumbers → (List ℕ → ℕ) → List AdvNode → End → Option Play
play_to game answer nodes end =
    option_map (λ bins. play_with game answer end.items bins) (end_packing nodes (end.number + 1) end.number)

-- the play of nodes against an algorithm from the node of this number on; each child has a lower number than its node,
-- so no play passes more nodes than there are up to this one
abbrev pub play : GameNumbers → List AdvNode → ℕ → (List ℕ → ℕ) → Option Play
play game nodes root answer =
    option_and_then (play_to game answer nodes) (end_of game answer nodes (root + 1) root [])

-- a play that the algorithm loses: the items are packable, the packing is one of them, and a load reaches the target
pub record IsLost (game : GameNumbers) (play : Play) : Type 0 where
  pub packable : Packable game play.items
  pub packed : IsPacking game play.packing play.items
  pub reached : Any (λ load. game.target ≤ load) play.loads
