use Rattle.stretch_bench.proofs.WriteLemmas.{first_failed, on_err, second_failed}
use Rattle.stretch_bench.proofs.due.write_due.Goals as goal

pub returns-in_err-write_some-clause-err : goal.returns-in_err-write_some-clause-err
returns-in_err-write_some-clause-err g c =
    on_err c.from_residual-in_err-write_some.result
    (first_failed _ _ _ _ _ _ _ c.as_slice.ensures.value c.in_ok-put_all.ensures.ok c.in_err-write_some.ensures.err)

pub returns-clause-err : goal.returns-clause-err
returns-clause-err g c =
    second_failed c.write_some-2.result _ _ _ _ _ _ _ _ c.as_slice.ensures.value c.in_ok-put_all.ensures.ok c.in_ok-write_some.ensures.ok
    c.write_some-2.ensures.err
