-- Nodes of either side: the rules that they meet or break, and the legal strategies.
use Rattle.std.specs.Prelude.{◌≡◌, ◌==◌, ℕ, ◌+◌, Bool, List, Some, map, take, slice_get}
use Rattle.items.specs.Game.{GameNumbers}
use Rattle.items.specs.Multiset.{sizes_of}
use Rattle.loads.specs.Position.{position}
use Rattle.loads.specs.declared.position.Position.{Position}
use Rattle.strategy_text.specs.Text.{AnyNode, of_adversary, of_algorithm, loads_of, items_of}
use Rattle.strategy_text.specs.declared.node.Format.{Format}
use Rattle.strategy_text.specs.declared.node.Nodes.{Nodes}
use Rattle.strategy_text.specs.declared.node.Nodes.TheVariants as nodes
use Rattle.strategy_text.specs.declared.node.Side.{Side}
use Rattle.strategy_text.specs.declared.node.Side.TheVariants as sides
use Rattle.strategy_text.specs.declared.node.Strategy.{Strategy}
use Rattle.strategy_text.specs.declared.rule.Rule.{Rule}
use Rattle.adversary_graph.specs.Rules as adversary
use Rattle.adversary_graph.specs.Legal as adversary_legal
use Rattle.algorithm_graph.specs.Rules as algorithm
use Rattle.algorithm_graph.specs.Legal as algorithm_legal

-- the position of a node
abbrev pub position_of : AnyNode → Position
position_of node = position (loads_of node) (items_of node)

-- whose node it is
abbrev pub side_of_node : AnyNode → Side
side_of_node (of_adversary node) = sides.Adversary
side_of_node (of_algorithm node) = sides.Algorithm

-- a node meets every rule of its side, in a format and a game, where items may have these sizes, over the positions of
-- the nodes before it, and as the last one or not
abbrev pub MeetsRules : Format → GameNumbers → List ℕ → List Position → Bool → AnyNode → Type 0
MeetsRules format game sizes earlier last (of_adversary node) = adversary.MeetsRules format game sizes earlier last node
MeetsRules format game sizes earlier last (of_algorithm node) = algorithm.MeetsRules game sizes earlier last node

-- the first rule of its side that a node breaks
abbrev pub Breaks : Format → GameNumbers → List ℕ → List Position → Bool → AnyNode → Rule → Type 0
Breaks format game sizes earlier last (of_adversary node) rule =
    adversary.Breaks format game sizes earlier last node rule
Breaks format game sizes earlier last (of_algorithm node) rule = algorithm.Breaks game sizes earlier last node rule

-- each node meets every rule over the positions of the nodes before it; the last one of so many is the root
unfoldable pub EachMeetsRules : Format → GameNumbers → List ℕ → ℕ → List AnyNode → Type 0
EachMeetsRules format game sizes count nodes =
    (k : ℕ) (node : AnyNode) → slice_get nodes k ≡ Some node
    → MeetsRules format game sizes (map position_of (take k nodes)) (k + 1 == count) node

-- the nodes of a strategy of either side are legal in a format, over the sizes that items may have
abbrev pub AreLegalNodes : Format → GameNumbers → List ℕ → Nodes → Type 0
AreLegalNodes format game sizes (nodes.Adversary list) = adversary_legal.IsLegal format game sizes list
AreLegalNodes format game sizes (nodes.Algorithm list) = algorithm_legal.IsLegal format game sizes list

-- a legal strategy of either side, over all sizes of its game
abbrev pub IsLegal : Strategy → Type 0
IsLegal strategy = AreLegalNodes strategy.format strategy.game (sizes_of strategy.game) strategy.nodes
