use Rattle.reach_planes.proofs.PassLemmas.{AreKeptUpTo}
use Rattle.reach_planes.proofs.rows.keep.Given as goal

abbrev pub invariant-loop-half : goal.invariant-loop-half
invariant-loop-half l = AreKeptUpTo l.half l.lack l.sums l.fn.words l.words
