use Rattle.good_situations.proofs.KeepingLemmas.{finish_stays_below}
use Rattle.good_situations.proofs.laws.a_finish_stays_below_the_target.Goals as goal

pub returns : goal.returns
returns c = record { finish = finish_stays_below }
