use Rattle.algorithm_graph.proofs.ReplayLemmas.{replies_are_an_algorithm, runs_are_replays}
use Rattle.algorithm_graph.proofs.laws.replies_are_an_algorithm.Goals as goal

pub returns-clause-algorithm : goal.returns-clause-algorithm
returns-clause-algorithm c = replies_are_an_algorithm

pub returns-clause-run : goal.returns-clause-run
returns-clause-run c = runs_are_replays
