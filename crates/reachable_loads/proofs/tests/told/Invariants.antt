use Rattle.std.proofs.Common.{◌≡◌}
use Rattle.reachable_loads.proofs.tests.told.Given as goal

abbrev pub invariant-loop-s : goal.invariant-loop-s
invariant-loop-s l = l.reach.game ≡ l.game
