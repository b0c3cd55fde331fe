use Rattle.std.proofs.Common.{◌≡◌, ◌≤◌, ◌++◌, ◌∷◌, [], drop}
use Rattle.items.specs.Packable.{Packable}
use Rattle.reachable_loads.proofs.rooms.room_by_placing.Given as goal

abbrev pub invariant-loop-size : goal.invariant-loop-size
invariant-loop-size l = record {
  same : drop 1 l.list ≡ drop 1 l.fn.list;
  may_come : 1 ≤ l.size → Packable l.game (drop 1 l.fn.list ++ l.size ∷ []);
}
