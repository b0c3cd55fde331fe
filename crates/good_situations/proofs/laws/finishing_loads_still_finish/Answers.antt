use Rattle.good_situations.proofs.KeepingLemmas.{finishes_after}
use Rattle.good_situations.proofs.laws.finishing_loads_still_finish.Goals as goal

pub returns : goal.returns
returns c = record { after = finishes_after }
