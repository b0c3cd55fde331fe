use Rattle.good_situations.proofs.KeepingLemmas.{big_finish_stays_below}
use Rattle.good_situations.proofs.laws.a_big_finish_stays_below_the_target.Goals as goal

pub returns : goal.returns
returns c = record { big = big_finish_stays_below }
