use Rattle.monotone.proofs.ReachableLemmas.{reachable_positions_are_counted, one_number_of_reachable, reachable_are_no_more, last_pass_has_most}
use Rattle.monotone.proofs.laws.reachable_positions_are_counted.Goals as goal

pub returns : goal.returns
returns c = record { exists = reachable_positions_are_counted; unique = one_number_of_reachable; most = reachable_are_no_more; last = last_pass_has_most }
