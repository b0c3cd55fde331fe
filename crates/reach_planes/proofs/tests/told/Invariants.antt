use Rattle.std.proofs.Common.{◌≡◌}
use Rattle.reach_planes.proofs.tests.told.Given as goal

abbrev pub invariant-loop-s : goal.invariant-loop-s
invariant-loop-s l = l.planes.game ≡ l.game
