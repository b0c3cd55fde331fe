use Rattle.adversary_graph.proofs.EndLemmas.{plays_are_lost as each_is_lost}
use Rattle.adversary_graph.proofs.laws.plays_are_lost.Goals as goal

pub returns : goal.returns
returns c = record { lost = each_is_lost }
