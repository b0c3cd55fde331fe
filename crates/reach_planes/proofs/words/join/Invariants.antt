use Rattle.std.proofs.Common.{◌*◌}
use Rattle.reach_planes.specs.Words.{AreJoined}
use Rattle.reach_planes.proofs.words.join.Given as goal

abbrev pub invariant-loop-i : goal.invariant-loop-i
invariant-loop-i l = AreJoined l.by.up l.by.down l.by.mask (4 * l.i) l.to l.from l.source l.fn.words l.words

abbrev pub invariant-loop-k : goal.invariant-loop-k
invariant-loop-k l = AreJoined l.by.up l.by.down l.by.mask l.k l.to l.from l.source l.fn.words l.words
