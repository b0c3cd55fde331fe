use Rattle.std.proofs.Common.{◌≤◌}
use Rattle.reachable_loads.proofs.ReachLemmas.{TellsRoom}
use Rattle.reachable_loads.proofs.sets.Sets.room.Given as goal

abbrev pub invariant-loop-loads : goal.invariant-loop-loads
invariant-loop-loads l = record {
  can_next : (goal.iterator-loop-loads).can_next l.loads-iterator;
  is_finite : (goal.iterator-loop-loads).is_finite l.loads-iterator;
  within : l.room ≤ l.capacity;
  tells : TellsRoom l.capacity l.room l.loads-iterator l.initial.loads-iterator;
}
