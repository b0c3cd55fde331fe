use Rattle.adversary_graph.proofs.WonLemmas.{legal_nodes_are_won, legal_strategy_forces}
use Rattle.adversary_graph.proofs.laws.legal_strategies_force_every_algorithm.Goals as goal

pub returns-clause-nodes : goal.returns-clause-nodes
returns-clause-nodes c = legal_nodes_are_won

pub returns-clause-game : goal.returns-clause-game
returns-clause-game c = legal_strategy_forces
