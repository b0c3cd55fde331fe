use Rattle.std.proofs.Common.{sym}
use Rattle.std.proofs.lemmas.Result.{err_from_is_err_and}
use Rattle.strategy_text.proofs.Spaced.{took_each, stopped_each}
use Rattle.strategy_text.proofs.spelled.put_each.Goals as goal

pub returns-in_err-put : goal.returns-in_err-put
returns-in_err-put g c =
    let p = err_from_is_err_and c.from_residual.result c.from_residual.ensures.1 in
    rw p.1 (stopped_each g.T.Spelled.words c.args.list.now c.loop-value.value-index c.value-item.result _ _ _ c.loop-value-test.true (sym c.value-item.is) c.loop-value.invariant
    c.in_err-put.ensures)

pub loop-value-preserved : goal.loop-value-preserved
loop-value-preserved g c =
    took_each g.T.Spelled.words c.args.list.now c.loop-value.value-index c.value-item.result _ _ _ c.loop-value-test.true (sym c.value-item.is) c.loop-value.invariant
    c.in_ok-put.ensures
