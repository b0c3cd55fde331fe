use Rattle.online_play.proofs.WonLemmas.{lower_target_forces}
use Rattle.online_play.proofs.laws.lower_targets_force.Goals as goal

pub returns : goal.returns
returns c = record { lower = lower_target_forces }
