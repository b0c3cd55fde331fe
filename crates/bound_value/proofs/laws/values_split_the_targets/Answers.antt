use Rattle.bound_value.proofs.ValueLemmas.{one_value, values_are_below_twice, values_split_targets}
use Rattle.bound_value.proofs.laws.values_split_the_targets.Goals as goal

pub returns : goal.returns
returns c = record { one = one_value; split = values_split_targets; below = values_are_below_twice }
