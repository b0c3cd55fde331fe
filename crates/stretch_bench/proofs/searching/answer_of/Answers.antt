use Rattle.std.proofs.Common.{ap, subst, sym}
use Rattle.minimax.specs.Budgets.{HasRoom}
use Rattle.stretch_bench.proofs.searching.answer_of.Goals as goal

pub returns-clause-each_pass : goal.returns-clause-each_pass
returns-clause-each_pass c =
    let same = ap (λ memo. memo.capacity) c.in_ok-memo.ensures.empty in
    λ numbers are room. c.solve.ensures.each_pass numbers are (subst (HasRoom c.args.game.now) (sym same) room)

pub returns-clause-won_pass : goal.returns-clause-won_pass
returns-clause-won_pass c =
    let same = ap (λ memo. memo.capacity) c.in_ok-memo.ensures.empty in
    λ numbers pass are room. c.solve.ensures.won_pass numbers pass are (subst (HasRoom c.args.game.now) (sym same) room)
