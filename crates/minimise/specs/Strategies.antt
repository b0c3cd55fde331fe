-- The canonical form of a strategy of either side, and the positions and references of its nodes.
use Rattle.std.specs.Prelude.{ℕ, List, map}
use Rattle.loads.specs.declared.position.Position.{Position}
use Rattle.strategy_text.specs.declared.node.Nodes.{Nodes}
use Rattle.strategy_text.specs.declared.node.Nodes.TheVariants.{Adversary, Algorithm}
use Rattle.strategy_text.specs.declared.node.Strategy.{Strategy}
use Rattle.adversary_graph.specs.Nodes as adversary
use Rattle.algorithm_graph.specs.Nodes as algorithm
use Rattle.minimise.specs.Canonical.{canonical}
use Rattle.minimise.specs.References.{adversary_references, renamed_adversary, algorithm_references, renamed_algorithm}

-- the canonical form of the nodes of either side
abbrev pub canonical_nodes : Nodes → Nodes
canonical_nodes (Adversary nodes) =
    Adversary (canonical adversary.position_of adversary_references renamed_adversary nodes)
canonical_nodes (Algorithm nodes) =
    Algorithm (canonical algorithm.position_of algorithm_references renamed_algorithm nodes)

-- the canonical form of a strategy
abbrev pub canonical_form : Strategy → Strategy
canonical_form strategy =
    record { format = strategy.format; game = strategy.game; nodes = canonical_nodes strategy.nodes }

-- the positions of nodes, by their numbers
abbrev pub positions_in : Nodes → List Position
positions_in (Adversary nodes) = map adversary.position_of nodes
positions_in (Algorithm nodes) = map algorithm.position_of nodes

-- the references of nodes, by their numbers
abbrev pub references_in : Nodes → List (List ℕ)
references_in (Adversary nodes) = map adversary_references nodes
references_in (Algorithm nodes) = map algorithm_references nodes
