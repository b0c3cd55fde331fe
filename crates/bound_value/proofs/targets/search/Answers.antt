use Rattle.std.proofs.Common.{ap, subst}
use Rattle.std.specs.Prelude.{IfOk}
use Rattle.bound_value.specs.Targets.{FallsShortIfUndecided}
use Rattle.bound_value.proofs.ValueLemmas.{short_result}
use Rattle.bound_value.proofs.targets.search.Goals as goal

pub returns-clause-short : goal.returns-clause-short
returns-clause-short c =
    subst (λ table. IfOk c.solve.result (FallsShortIfUndecided c.args.game.now c.args.budget table)) (ap (λ memo. memo.capacity) c.in_ok-memo.ensures.empty)
    (short_result c.args.game.now c.args.budget c.in_ok-memo.memo.capacity c.solve.result c.solve.ensures.many_visits c.solve.ensures.all_positions
    c.solve.ensures.each_pass c.solve.ensures.won_pass)
