use Rattle.minimax.specs.WinsWriting.{AreWritten}
use Rattle.minimax.proofs.wins_writing.write_wins.Given as goal

abbrev pub invariant-loop-k : goal.invariant-loop-k
invariant-loop-k l = AreWritten l.space l.wins l.marks.items l.k l.pool l.numbers.items
