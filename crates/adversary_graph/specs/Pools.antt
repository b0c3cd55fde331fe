use Rattle.std.specs.Prelude.{ℕ, List}
use Rattle.items.specs.Game.{GameNumbers}
use Rattle.items.specs.Multiset.{sizes_of}
use Rattle.strategy_text.specs.declared.node.AdvNode.{AdvNode}
use Rattle.strategy_text.specs.declared.node.Format.{Format}
use Rattle.strategy_text.specs.declared.node.Nodes.{Nodes}
use Rattle.strategy_text.specs.declared.node.Nodes.TheVariants as sides
use Rattle.strategy_text.specs.declared.node.Strategy.{Strategy}
use Rattle.node_pool.specs.Pools as pools
use Rattle.node_pool.specs.Terms.{whole_game}
use Rattle.adversary_graph.specs.Legal.{IsLegal, IsNodeOfFormat, MeetsRulesUnder}
use Rattle.adversary_graph.specs.Nodes.{position_of}

-- a pool of nodes of the adversary
abbrev pub Pool : Type 0
Pool = pools.Pool AdvNode

-- the pool of these nodes for the whole game
abbrev pub pool_of : Format → GameNumbers → List AdvNode → Pool
pool_of format game nodes = pools.pool_of (whole_game format game) nodes

-- what every pool keeps
abbrev pub IsPool : Pool → Type 0
IsPool pool = pools.IsPool position_of IsNodeOfFormat MeetsRulesUnder pool

-- a node may come next into a pool
abbrev pub MayComeNext : Pool → AdvNode → Type 0
MayComeNext pool node = pools.MayComeNext position_of IsNodeOfFormat MeetsRulesUnder pool node

-- the node of this number has the empty position
abbrev pub IsRoot : List AdvNode → ℕ → Type 0
IsRoot nodes root = pools.IsRoot position_of nodes root

-- the strategy of the adversary that these nodes are
abbrev pub strategy_of : Pool → Strategy
strategy_of pool = record { format = pool.format; game = pool.game; nodes = sides.Adversary pool.nodes }

-- the nodes are the adversary's, and legal
abbrev pub AreLegal : Format → GameNumbers → Nodes → Type 0
AreLegal format game (sides.Adversary nodes) = IsLegal format game (sizes_of game) nodes
AreLegal format game (sides.Algorithm nodes) = ⊥

-- a legal strategy of the adversary for the whole game
abbrev pub IsLegalOfAdversary : Strategy → Type 0
IsLegalOfAdversary strategy = AreLegal strategy.format strategy.game strategy.nodes
