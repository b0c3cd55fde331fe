use Rattle.forcing.proofs.placing.Placer.+place_rest.Given as goal

abbrev pub decreases-place_rest : goal.decreases-place_rest
decreases-place_rest l = l.left
