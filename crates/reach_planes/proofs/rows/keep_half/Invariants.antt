use Rattle.reach_planes.proofs.PassLemmas.{IsKeptUpTo}
use Rattle.reach_planes.proofs.rows.keep_half.Given as goal

abbrev pub invariant-loop-row : goal.invariant-loop-row
invariant-loop-row l = IsKeptUpTo l.from l.row l.lack l.sums l.fn.words l.words
