use Rattle.std.specs.Prelude.{◌≡◌, ℕ, ◌==◌, Bool, List, Some, All}
use Rattle.std.specs.List.{list_any}
use Rattle.items.specs.Game.{GameNumbers}
use Rattle.items.specs.Multiset.{IsSize, sizes_of}
use Rattle.loads.specs.Wins.{IsWon}
use Rattle.online_play.specs.Algorithm.{ForcesEvery, IsAlgorithm}
use Rattle.strategy_text.specs.declared.node.AdvNode.{AdvNode}
use Rattle.strategy_text.specs.declared.node.Format.{Format}
use Rattle.adversary_graph.specs.Legal.{IsLegal}
use Rattle.adversary_graph.specs.Nodes.{position_of}
use Rattle.adversary_graph.specs.Play.{IsLost, Play, play}
use Rattle.adversary_graph.specs.Pools.{IsPool, IsRoot, Pool}

-- whether items may have a size that comes after these items: one of the sizes, whatever came
abbrev pub is_one_of : List ℕ → List ℕ → ℕ → Bool
is_one_of sizes items size = list_any (λ allowed. size == allowed) sizes

-- the adversary wins from the position of each node of a legal strategy, by items of the allowed sizes alone
abbrev pub LegalNodesAreWon : Type 0
LegalNodesAreWon =
    (format : Format) (game : GameNumbers) (sizes : List ℕ) (nodes : List AdvNode) → All (IsSize game.capacity) sizes
    → IsLegal format game sizes nodes → All (λ node. IsWon game (is_one_of sizes) (position_of node)) nodes

-- a legal strategy of the adversary forces every algorithm of its game
abbrev pub LegalStrategiesForceEvery : Type 0
LegalStrategiesForceEvery =
    (format : Format) (game : GameNumbers) (nodes : List AdvNode)
    → IsLegal format game (sizes_of game) nodes → ForcesEvery game

-- against each algorithm the play from a root of a pool has an end, and the algorithm loses it
abbrev pub PlaysAreLost : Type 0
PlaysAreLost =
    (pool : Pool) (root : ℕ) (answer : List ℕ → ℕ) → IsPool pool → IsRoot pool.nodes root
    → IsAlgorithm pool.game answer
    → (lost : Play) × (play pool.game pool.nodes root answer ≡ Some lost) × IsLost pool.game lost
