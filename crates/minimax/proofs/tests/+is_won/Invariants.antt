use Rattle.std.specs.Prelude.{◌<◌}
use Rattle.minimax.proofs.tests.+is_won.Given as goal

abbrev pub decreases-is_won : goal.decreases-is_won
decreases-is_won l = l.left

abbrev pub invariant-loop-bin : goal.invariant-loop-bin
invariant-loop-bin l = record {
  some : 0 < l.left;
}

abbrev pub invariant-loop-size : goal.invariant-loop-size
invariant-loop-size l = record {
  some : 0 < l.left;
}
