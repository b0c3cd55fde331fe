-- What the private contracts of judging a node cite; nothing here has to be believed.
use Rattle.std.specs.Prelude.{◌≡◌, ◌↔◌, ℕ, zero, suc, ◌≤◌, Bool, List, [], ◌∷◌, ◌++◌, if◌then◌else◌, nat_lt, map}
use Rattle.items.specs.Game.{GameNumbers}
use Rattle.items.specs.Multiset.{count, IsSize, IsMultiset}
use Rattle.loads.specs.Loads.{IsLoads}
use Rattle.items.specs.Packable.{Packable}
use Rattle.loads.specs.After.{after}
use Rattle.loads.specs.Position.{StandsAt}
use Rattle.loads.specs.declared.position.Position.{Position}
use Rattle.strategy_text.specs.Rules.{IsFirstBroken}
use Rattle.strategy_text.specs.declared.node.Act.{Act}
use Rattle.strategy_text.specs.declared.node.AlgNode.{AlgNode}
use Rattle.strategy_text.specs.declared.node.Entry.{Entry}
use Rattle.strategy_text.specs.declared.rule.Rule.{Rule}
use Rattle.algorithm_graph.specs.Rules.{NodeRule, rule_of, Meets, rules_past_items}

-- the node of this position that does this
abbrev pub node_at : Position → Act → AlgNode
node_at position act = record { loads = position.loads; items = position.items; act = act }

-- the first rule past `items` that the node breaks
abbrev pub BreaksPastItems : GameNumbers → List ℕ → List Position → Bool → AlgNode → Rule → Type 0
BreaksPastItems game sizes earlier last node rule =
    (broken : NodeRule) × (rule ≡ rule_of broken)
    × IsFirstBroken (Meets game sizes earlier last node) rules_past_items broken

-- the sizes of the entries, in their order
abbrev pub sizes_in : List Entry → List ℕ
sizes_in entries = map (λ entry. entry.size) entries

-- the size alone where it is one of the sizes, and nothing where it is not
abbrev pub if_one_of : List ℕ → ℕ → List ℕ
if_one_of sizes size = if nat_lt 0 (count size sizes) then size ∷ [] else []

-- the sizes that are at most so large, ascending
unfoldable pub sizes_up_to : List ℕ → ℕ → List ℕ
sizes_up_to sizes zero = []
sizes_up_to sizes (suc n) = sizes_up_to sizes n ++ if_one_of sizes (suc n)

-- the items are packable with one more exactly where it is not larger than the room
abbrev pub HaveRoom : GameNumbers → List ℕ → ℕ → Type 0
HaveRoom game items room = (size : ℕ) → Packable game (items ++ size ∷ []) ↔ (1 ≤ size) × (size ≤ room)

-- the size of the entry is a size of the game
abbrev pub HasSize : GameNumbers → Entry → Type 0
HasSize game entry = IsSize game.capacity entry.size

-- a node's loads are loads of the game, and its items a multiset of sizes of the game
pub record HasPosition (game : GameNumbers) (node : AlgNode) : Type 0 where
  pub loads : IsLoads game node.loads
  pub items : IsMultiset game.capacity node.items

-- the entry leads to an earlier node at the position after its item
abbrev pub LeadsOn : List Position → Position → Entry → Type 0
LeadsOn earlier position entry = StandsAt earlier entry.to (after position entry.load entry.size)
