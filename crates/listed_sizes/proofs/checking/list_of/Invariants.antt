use Rattle.std.proofs.Common.{◌≤◌, ◌-◌}
use Rattle.listed_sizes.proofs.SizeLists.{TakenUpTo}
use Rattle.listed_sizes.proofs.checking.list_of.Given as goal

abbrev pub invariant-loop-size : goal.invariant-loop-size
invariant-loop-size l = TakenUpTo l.last l.list l.sizes × (l.last ≤ 120)

abbrev pub decreases-loop-size : goal.decreases-loop-size
decreases-loop-size l = 120 - l.last
