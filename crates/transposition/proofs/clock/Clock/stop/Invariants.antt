use Rattle.std.proofs.Common.{◌≡◌, ◌-◌, length, vec_capacity}
use Rattle.transposition.proofs.ClockLemmas.{IsOnTheWay, marks_left}
use Rattle.transposition.proofs.clock.Clock.stop.Given as goal

abbrev pub invariant-loop-self : goal.invariant-loop-self
invariant-loop-self l = record {
  way : IsOnTheWay l.fn.self l.self-inside.marks.items l.self-inside.hand;
  room : vec_capacity l.self-inside.marks - length l.self-inside.marks.items ≡ l.fn.self.room;
}

abbrev pub decreases-loop-self : goal.decreases-loop-self
decreases-loop-self l = marks_left l.self-inside.marks.items
