use Rattle.reach_planes.proofs.PassLemmas.{HaveGoneUpTo}
use Rattle.reach_planes.proofs.rows.put_in_first.Given as goal

abbrev pub invariant-loop-half : goal.invariant-loop-half
invariant-loop-half l = HaveGoneUpTo l.half l.rows l.capacity l.s l.source l.fn.words l.words
