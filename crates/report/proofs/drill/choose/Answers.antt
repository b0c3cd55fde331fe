use Rattle.std.proofs.Common.{◌+◌, ◌%◌, ap, ◌∙◌}
use Rattle.report.specs.Drill.{word}
use Rattle.report.proofs.DrawLemmas.{drawn}
use Rattle.report.proofs.drill.choose.Goals as goal

pub returns-clause-chosen : goal.returns-clause-chosen
returns-clause-chosen c = λ number words given.
    let drew = (drawn number words c.args.rng.now c.next_u64.new.self c.next_u64.result c.next_u64.ensures given).0 in
    ap (λ w. c.args.first + w % c.from.result) drew ∙ ap (λ n. c.args.first + word number words % n) c.from.ensures

pub returns-clause-drawn : goal.returns-clause-drawn
returns-clause-drawn c = λ number words given.
    (drawn number words c.args.rng.now c.next_u64.new.self c.next_u64.result c.next_u64.ensures given).1
