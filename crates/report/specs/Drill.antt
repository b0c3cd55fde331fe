-- A large legal strategy of the adversary that is made from a number.
use Rattle.std.specs.Prelude.{ℕ, zero, suc, ◌+◌, ◌*◌, ◌%◌, List, [], ◌∷◌, ◌++◌, Some, map, replicate}
use Rattle.std.specs.List.{range_with_len}
use Rattle.rand_xoshiro.specs.SplitMix64.{splitmix_seed}
use Rattle.rand_xoshiro.specs.Xoshiro256.{of_seed, plus_plus}
use Rattle.items.specs.Game.{numbers}
use Rattle.strategy_text.specs.declared.node.AdvNode.{AdvNode}
use Rattle.strategy_text.specs.declared.node.Format.TheVariants.{One}
use Rattle.strategy_text.specs.declared.node.Nodes.TheVariants.{Adversary}
use Rattle.strategy_text.specs.declared.node.Placement.{Placement}
use Rattle.strategy_text.specs.declared.node.Step.TheVariants.{Send}
use Rattle.strategy_text.specs.declared.node.Strategy.{Strategy}
use Rattle.strategy_text.specs.declared.node.Then.TheVariants.{Over, To}

-- ---- the words of the generator xoshiro256++ that a number seeds

-- its state after so many words
unfoldable pub state_after : ℕ → ℕ → List ℕ
state_after number zero = of_seed (splitmix_seed 32 number)
state_after number (suc n) = (plus_plus (state_after number n)).1

-- its word of this place, counted from 0
abbrev pub word : ℕ → ℕ → ℕ
word number place = (plus_plus (state_after number place)).0

-- the choice of this place among so many copies
abbrev pub choice : ℕ → ℕ → ℕ → ℕ
choice number copies place = word number place % copies

-- ---- the five nodes that are copied

abbrev pub sends : List ℕ → List ℕ → ℕ → List (List ℕ) → List Placement → AdvNode
sends loads items size pack placements =
    record { loads = loads; items = items; step = Send size (Some pack) placements }

-- the play is over where the item goes to a bin of this load
abbrev pub over : ℕ → Placement
over load = record { load = load; next = Over }

-- the play goes on at the node of this number where the item goes to a bin of this load
abbrev pub to : ℕ → ℕ → Placement
to load child = record { load = load; next = To child }

abbrev pub node_0 : AdvNode
node_0 = sends (2 ∷ 2 ∷ []) (1 ∷ 1 ∷ 2 ∷ []) 2 ((1 ∷ 2 ∷ []) ∷ (1 ∷ 2 ∷ []) ∷ []) (over 2 ∷ [])

abbrev pub node_1 : ℕ → AdvNode
node_1 child = sends (2 ∷ 0 ∷ []) (1 ∷ 1 ∷ []) 2 ((1 ∷ 2 ∷ []) ∷ (1 ∷ []) ∷ []) (over 2 ∷ to 0 child ∷ [])

abbrev pub node_2 : AdvNode
node_2 = sends (1 ∷ 1 ∷ []) (1 ∷ 1 ∷ []) 3 ((3 ∷ []) ∷ (1 ∷ 1 ∷ []) ∷ []) (over 1 ∷ [])

abbrev pub node_3 : ℕ → ℕ → AdvNode
node_3 child other = sends (1 ∷ 0 ∷ []) (1 ∷ []) 1 ((1 ∷ 1 ∷ []) ∷ [] ∷ []) (to 1 child ∷ to 0 other ∷ [])

abbrev pub node_4 : ℕ → AdvNode
node_4 child = sends (0 ∷ 0 ∷ []) [] 1 ((1 ∷ []) ∷ [] ∷ []) (to 0 child ∷ [])

-- ---- the strategy

-- the copy of this place of node 1: it leads to a copy of node 0
abbrev pub copy_of_1 : ℕ → ℕ → ℕ → AdvNode
copy_of_1 number copies place = node_1 (choice number copies place)

-- the copy of this place of node 3: it leads to a copy of node 1 and to a copy of node 2
abbrev pub copy_of_3 : ℕ → ℕ → ℕ → AdvNode
copy_of_3 number copies place =
    node_3 (copies + choice number copies (copies + 2 * place))
    (2 * copies + choice number copies (copies + 2 * place + 1))

-- so many copies of each of the first four nodes, and the root, which leads to a copy of node 3
abbrev pub drill_nodes : ℕ → ℕ → List AdvNode
drill_nodes number copies =
    replicate copies node_0
    ++ map (copy_of_1 number copies) (range_with_len 0 copies)
    ++ replicate copies node_2
    ++ map (copy_of_3 number copies) (range_with_len 0 copies)
    ++ node_4 (3 * copies + choice number copies (3 * copies)) ∷ []

-- the strategy of the game of two bins, capacity 3 and target 4
abbrev pub drill : ℕ → ℕ → Strategy
drill number copies = record {
  format = One;
  game = numbers 2 3 4;
  nodes = Adversary (drill_nodes number copies);
}
