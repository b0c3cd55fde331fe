use Rattle.reach_planes.proofs.rows.+digit_sum.Given as goal

abbrev pub decreases-digit_sum : goal.decreases-digit_sum
decreases-digit_sum l = l.places
