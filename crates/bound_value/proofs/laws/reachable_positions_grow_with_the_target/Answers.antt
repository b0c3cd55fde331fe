use Rattle.bound_value.proofs.TargetLemmas.{all_reachable_positions_grow_with_the_target, reachable_positions_grow_with_the_target}
use Rattle.bound_value.proofs.laws.reachable_positions_grow_with_the_target.Goals as goal

pub returns : goal.returns
returns c = record { pass = reachable_positions_grow_with_the_target; all = all_reachable_positions_grow_with_the_target }
