use Rattle.algorithm_graph.proofs.BelowLemmas.{legal_replies_keep_below, replay_stays_below}
use Rattle.algorithm_graph.proofs.laws.legal_replies_keep_every_load_below.Goals as goal

pub returns-clause-below : goal.returns-clause-below
returns-clause-below c = legal_replies_keep_below

pub returns-clause-listed : goal.returns-clause-listed
returns-clause-listed c = λ format game sizes nodes items legal. replay_stays_below format game sizes nodes legal items
