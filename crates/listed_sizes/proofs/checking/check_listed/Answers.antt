use Rattle.listed_sizes.proofs.AnswerLemmas.{accepted_forces}
use Rattle.listed_sizes.proofs.checking.check_listed.Goals as goal

pub returns-clause-forced : goal.returns-clause-forced
returns-clause-forced g c is = (accepted_forces c.in_ok-accepted.accepted c.in_ok-sizes.sizes _ _ c.in_ok-sizes.ensures c.in_ok-accepted.ensures.accepted is).0

pub returns-clause-whole : goal.returns-clause-whole
returns-clause-whole g c is = (accepted_forces c.in_ok-accepted.accepted c.in_ok-sizes.sizes _ _ c.in_ok-sizes.ensures c.in_ok-accepted.ensures.accepted is).1
