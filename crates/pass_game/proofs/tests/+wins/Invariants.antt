use Rattle.pass_game.proofs.tests.+wins.Given as goal

abbrev pub decreases-wins : goal.decreases-wins
decreases-wins l = l.steps
