use Rattle.std.specs.Prelude.{ℕ, List}
use Rattle.items.specs.Game.{GameNumbers}
use Rattle.items.specs.Multiset.{sizes_of}
use Rattle.strategy_text.specs.declared.node.AlgNode.{AlgNode}
use Rattle.strategy_text.specs.declared.node.Format.{Format}
use Rattle.strategy_text.specs.declared.node.Nodes.{Nodes}
use Rattle.strategy_text.specs.declared.node.Nodes.TheVariants as sides
use Rattle.strategy_text.specs.declared.node.Strategy.{Strategy}
use Rattle.node_pool.specs.Pools as pools
use Rattle.node_pool.specs.Terms.{whole_game}
use Rattle.algorithm_graph.specs.Legal.{IsLegal, IsNodeOfFormat, MeetsRulesUnder}
use Rattle.algorithm_graph.specs.Nodes.{position_of}

-- a pool of nodes of the algorithm
abbrev pub Pool : Type 0
Pool = pools.Pool AlgNode

-- the pool of these nodes for the whole game
abbrev pub pool_of : Format → GameNumbers → List AlgNode → Pool
pool_of format game nodes = pools.pool_of (whole_game format game) nodes

-- what every pool keeps
abbrev pub IsPool : Pool → Type 0
IsPool pool = pools.IsPool position_of IsNodeOfFormat MeetsRulesUnder pool

-- a node may come next into a pool
abbrev pub MayComeNext : Pool → AlgNode → Type 0
MayComeNext pool node = pools.MayComeNext position_of IsNodeOfFormat MeetsRulesUnder pool node

-- the node of this number has the empty position
abbrev pub IsRoot : List AlgNode → ℕ → Type 0
IsRoot nodes root = pools.IsRoot position_of nodes root

-- the strategy of the algorithm that these nodes are
abbrev pub strategy_of : Pool → Strategy
strategy_of pool = record { format = pool.format; game = pool.game; nodes = sides.Algorithm pool.nodes }

-- the nodes are the algorithm's, and legal
abbrev pub AreLegal : Format → GameNumbers → Nodes → Type 0
AreLegal format game (sides.Algorithm nodes) = IsLegal format game (sizes_of game) nodes
AreLegal format game (sides.Adversary nodes) = ⊥

-- a legal strategy of the algorithm for the whole game
abbrev pub IsLegalOfAlgorithm : Strategy → Type 0
IsLegalOfAlgorithm strategy = AreLegal strategy.format strategy.game strategy.nodes
