use Rattle.std.proofs.Common.{◌≡◌}
use Rattle.items.specs.Multiset.{put_times}
use Rattle.transposition.proofs.small_position.put_times.Given as goal

abbrev pub invariant-loop-i : goal.invariant-loop-i
invariant-loop-i l = l.items ≡ put_times l._i l.size l.fn.items
