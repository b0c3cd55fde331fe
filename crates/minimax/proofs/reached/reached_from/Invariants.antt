use Rattle.minimax.specs.Reached.{AreReached}
use Rattle.minimax.proofs.reached.reached_from.Given as goal

abbrev pub invariant-loop-number : goal.invariant-loop-number
invariant-loop-number l = AreReached l.wins l.root l.number l.marks.items
