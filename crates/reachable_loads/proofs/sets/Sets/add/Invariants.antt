use Rattle.reachable_loads.proofs.ReachLemmas.{HasAfter}
use Rattle.reachable_loads.proofs.sets.Sets.add.Given as goal

abbrev pub invariant-loop-loads : goal.invariant-loop-loads
invariant-loop-loads l = record {
  can_next : (goal.iterator-loop-loads).can_next l.loads-iterator;
  is_finite : (goal.iterator-loop-loads).is_finite l.loads-iterator;
  so_far : HasAfter l.self-inside.game.capacity l.s l.members.keys l.loads-iterator l.initial.loads-iterator;
}
