use Rattle.reachable_loads.proofs.PutLemmas.{IsAfterEarly, HasPut}
use Rattle.reachable_loads.proofs.sets.put_after.Given as goal

abbrev pub invariant-loop-i : goal.invariant-loop-i
invariant-loop-i l = HasPut (λ after. IsAfterEarly l.capacity l.s after l.loads l.i) l.fn.members.keys l.members.keys
