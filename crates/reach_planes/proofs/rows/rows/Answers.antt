use Rattle.std.proofs.Common.{arith, ◌-◌}
use Rattle.reach_planes.proofs.RowLemmas.{pow-bound}
use Rattle.reach_planes.proofs.rows.rows.Goals as goal

pub pow-requires : goal.pow-requires
pow-requires c =
    let legal = c.g.ensures.legal in
    let bound = pow-bound c.from.result (c.from-2.result - 2) (omega (arith, c.from.ensures, c.g.ensures.value, legal.capacity.high))
    (omega (arith, c.from-2.ensures, c.m.ensures.value, legal.bins.high)) in
    omega (arith, bound)
