use Rattle.reachable_loads.proofs.tests.+bits_agree.Given as goal

abbrev pub decreases-bits_agree : goal.decreases-bits_agree
decreases-bits_agree l = l.depth
