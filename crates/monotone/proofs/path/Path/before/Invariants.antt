use Rattle.std.proofs.Common.{◌≤◌, length}
use Rattle.monotone.proofs.OrderLemmas.{IsDecidedFrom}
use Rattle.monotone.proofs.path.Path.before.Given as goal

abbrev pub invariant-loop-i : goal.invariant-loop-i
invariant-loop-i l = (l.i ≤ length l.others) × IsDecidedFrom l.i l.mine l.others
