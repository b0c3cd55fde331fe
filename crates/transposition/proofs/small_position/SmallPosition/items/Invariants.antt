use Rattle.std.proofs.Common.{◌≡◌, ◌++◌, ◌+◌, drop}
use Rattle.items.specs.Counters.{expanded}
use Rattle.transposition.proofs.small_position.SmallPosition.items.Given as goal

abbrev pub invariant-loop-i : goal.invariant-loop-i
invariant-loop-i l = l.items ++ expanded (l.i + 1) (drop l.i l.n-items) ≡ l.self.items
