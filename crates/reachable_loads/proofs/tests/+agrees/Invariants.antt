use Rattle.reachable_loads.proofs.tests.+agrees.Given as goal

abbrev pub decreases-agrees : goal.decreases-agrees
decreases-agrees l = l.depth
