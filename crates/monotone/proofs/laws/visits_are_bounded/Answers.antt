use Rattle.monotone.proofs.VisitLemmas.{visits_are_bounded}
use Rattle.monotone.proofs.laws.visits_are_bounded.Goals as goal

pub returns : goal.returns
returns c = record { bounded = visits_are_bounded }
