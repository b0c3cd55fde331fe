use Rattle.std.proofs.Common.{arith}
use Rattle.transposition.proofs.DropLemmas.{dropped_at, one_fewer}
use Rattle.transposition.proofs.clock_table.drop_one.Goals as goal

pub returns-clause-dropped : goal.returns-clause-dropped
returns-clause-dropped g c =
    let took = c.swap_remove_index.ensures in
    dropped_at g.K.PartialEq.eq g.met.K.Eq.laws c.args.map.now c.swap_remove_index.new.self _ c.stop-place.result c.swap_remove_index.result
    c.stop-place.ensures.within (omega arith) took.entry took.updates

pub returns-clause-number : goal.returns-clause-number
returns-clause-number g c =
    let took = c.swap_remove_index.ensures in
    one_fewer g.K.PartialEq.eq g.met.K.Eq.laws c.args.map.now c.swap_remove_index.new.self c.stop-place.result c.swap_remove_index.result
    (omega (arith, c.stop-place.ensures.within, c.requires.one_more)) took.entry took.len
