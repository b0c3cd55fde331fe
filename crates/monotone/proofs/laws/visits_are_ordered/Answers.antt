use Rattle.monotone.proofs.VisitLemmas.{no_visit_before_itself, IsEarlierVisit-trans}
use Rattle.monotone.proofs.laws.visits_are_ordered.Goals as goal

pub returns : goal.returns
returns c = record { itself = no_visit_before_itself; compose = IsEarlierVisit-trans }
