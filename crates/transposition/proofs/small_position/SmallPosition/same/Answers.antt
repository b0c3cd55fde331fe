use Rattle.std.proofs.Common.{arith}
use Rattle.transposition.proofs.SmallLemmas.{same_positions}
use Rattle.transposition.proofs.small_position.SmallPosition.same.Goals as goal

pub returns : goal.returns
returns c =
    let mine = c.self.told in
    let others = c.other.told in
    rw (← c.self.view_is, ← c.other.view_is)
    (same_positions _ _ _ _ _ _ _ _ _ _ (record { first = c.self.invariant; second = c.other.invariant; first_loads = mine.0; second_loads = others.0; counters = omega arith })
    c.eq-loads.ensures c.eq-counters.ensures)
