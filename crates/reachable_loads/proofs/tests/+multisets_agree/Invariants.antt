use Rattle.reachable_loads.proofs.tests.+multisets_agree.Given as goal

abbrev pub decreases-multisets_agree : goal.decreases-multisets_agree
decreases-multisets_agree l = l.depth
