use Rattle.std.proofs.Common.{◌*◌}
use Rattle.reach_planes.proofs.PassLemmas.{ArePutUpTo}
use Rattle.reach_planes.proofs.rows.put_in_bin.Given as goal

abbrev pub invariant-loop-i : goal.invariant-loop-i
invariant-loop-i l = ArePutUpTo l.i (l.base * l.stride) (l.s * l.stride) l.source l.fn.words l.words
