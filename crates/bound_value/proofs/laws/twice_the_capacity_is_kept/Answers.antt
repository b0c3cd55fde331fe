use Rattle.bound_value.proofs.ValueLemmas.{twice_the_capacity_is_kept}
use Rattle.bound_value.proofs.laws.twice_the_capacity_is_kept.Goals as goal

pub returns : goal.returns
returns c = record { kept = twice_the_capacity_is_kept }
