use Rattle.good_situations.specs.KeptOrder.{IsOrderOf}
use Rattle.good_situations.proofs.tests.big_bins.Given as goal

abbrev pub invariant-loop-i : goal.invariant-loop-i
invariant-loop-i l = IsOrderOf l.game.bins l.order
