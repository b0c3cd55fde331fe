-- Nodes of one side, judged in their order. A side is told by what the position of a node is, which nodes a format has,
-- and what the rules are, over the terms, the positions of the nodes before it, and whether it is the last node.
use Rattle.std.specs.Prelude.{◌≡◌, ◌==◌, ℕ, ◌+◌, ◌<◌, ◌≤◌, Bool, List, [], ◌∷◌, ◌++◌, Some, length, map}
use Rattle.std.specs.Prelude.{All, false, slice_get, take}
use Rattle.items.specs.Game.{GameNumbers, IsGame}
use Rattle.items.specs.Multiset.{IsMultiset, IsSize}
use Rattle.loads.specs.Loads.{IsLoads}
use Rattle.loads.specs.Position.{IsEmptyPosition}
use Rattle.loads.specs.declared.position.Position.{Position}
use Rattle.strategy_text.specs.Spelling.{most_nodes}
use Rattle.strategy_text.specs.declared.node.Format.{Format}
use Rattle.node_pool.specs.Terms.{Terms, terms_of}

-- ---- legal nodes

-- each node meets every rule over the nodes before it, of so many in all; the last one is the root
abbrev pub EachMeetsRules : {Node : Type 0} → (Node → Position) → (Terms → List Position → Bool → Node → Type 0) → Terms
    → ℕ → List Node → Type 0
EachMeetsRules {Node} position MeetsRules terms count nodes =
    (k : ℕ) (node : Node) → slice_get nodes k ≡ Some node
    → MeetsRules terms (map position (take k nodes)) (k + 1 == count) node

-- each node meets every rule but `root` over the nodes before it
abbrev pub EachFollows : {Node : Type 0} → (Node → Position) → (Terms → List Position → Bool → Node → Type 0) → Terms
    → List Node → Type 0
EachFollows {Node} position MeetsRules terms nodes =
    (k : ℕ) (node : Node) → slice_get nodes k ≡ Some node → MeetsRules terms (map position (take k nodes)) false node

-- legal nodes of one side: the numbers are a game, there are 1 to 4,000,000,000 nodes, each has a form of the format,
-- and each meets every rule
pub record AreLegal {Node : Type 0} (position : Node → Position) (IsOfFormat : Format → Node → Type 0)
    (MeetsRules : Terms → List Position → Bool → Node → Type 0) (terms : Terms) (nodes : List Node) : Type 0 where
  pub of_game : IsGame terms.game
  pub low : 1 ≤ length nodes
  pub high : length nodes ≤ most_nodes
  pub formed : All (IsOfFormat terms.format) nodes
  pub each : EachMeetsRules position MeetsRules terms (length nodes) nodes

-- ---- pools

-- a pool of nodes of one side: what they are judged by, and the nodes in the order of their numbers
pub record Pool (Node : Type 0) : Type 0 where
  pub format : Format
  pub game : GameNumbers
  pub sizes : List ℕ
  pub nodes : List Node

abbrev pub pool_of : {Node : Type 0} → Terms → List Node → Pool Node
pool_of terms nodes = record { format = terms.format; game = terms.game; sizes = terms.sizes; nodes = nodes }

abbrev pub terms_in : {Node : Type 0} → Pool Node → Terms
terms_in pool = terms_of pool.format pool.game pool.sizes

-- the pool with a further node at its end
abbrev pub with_node : {Node : Type 0} → Pool Node → Node → Pool Node
with_node pool node = pool_of (terms_in pool) (pool.nodes ++ node ∷ [])

-- what every pool keeps: the terms are those of a game, there are at most 4,000,000,000 nodes, each has a form of the
-- format, and each meets every rule but `root` over the nodes before it
pub record IsPool {Node : Type 0} (position : Node → Position) (IsOfFormat : Format → Node → Type 0)
    (MeetsRules : Terms → List Position → Bool → Node → Type 0) (pool : Pool Node) : Type 0 where
  pub of_game : IsGame pool.game
  pub sizes : All (IsSize pool.game.capacity) pool.sizes
  pub few : length pool.nodes ≤ most_nodes
  pub formed : All (IsOfFormat pool.format) pool.nodes
  pub follow : EachFollows position MeetsRules (terms_in pool) pool.nodes

-- a node may come next into a pool
pub record MayComeNext {Node : Type 0} (position : Node → Position) (IsOfFormat : Format → Node → Type 0)
    (MeetsRules : Terms → List Position → Bool → Node → Type 0) (pool : Pool Node) (node : Node) : Type 0 where
  pub room : length pool.nodes < most_nodes
  pub formed : IsOfFormat pool.format node
  pub follows : MeetsRules (terms_in pool) (map position pool.nodes) false node

-- the node of this number has the empty position
abbrev pub IsRoot : {Node : Type 0} → (Node → Position) → List Node → ℕ → Type 0
IsRoot {Node} position nodes root = (node : Node) × (slice_get nodes root ≡ Some node) × IsEmptyPosition (position node)

-- the nodes up to that of this number
abbrev pub nodes_up_to : {Node : Type 0} → ℕ → List Node → List Node
nodes_up_to root nodes = take (root + 1) nodes

-- ---- what the rules of every side have in common

-- loads of the game, and a multiset of sizes of the game
pub record IsPositionOf (game : GameNumbers) (position : Position) : Type 0 where
  pub loads : IsLoads game position.loads
  pub items : IsMultiset game.capacity position.items
