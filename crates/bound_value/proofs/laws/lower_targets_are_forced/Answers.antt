use Rattle.bound_value.proofs.TargetLemmas.{lower_targets_are_forced}
use Rattle.bound_value.proofs.laws.lower_targets_are_forced.Goals as goal

pub returns : goal.returns
returns c = record { lower = lower_targets_are_forced }
