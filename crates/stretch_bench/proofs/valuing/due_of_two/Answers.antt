use Rattle.stretch_bench.proofs.ValueLemmas.{two_due}
use Rattle.stretch_bench.proofs.valuing.due_of_two.Goals as goal

pub returns : goal.returns
returns c =
    two_due c.args.line c.args.first.now c.args.second.now c.in_ok-first.first c.in_ok-second.second c.in_ok-first.ensures.legal c.in_ok-second.ensures.legal
    c.in_ok-first.ensures.exact c.in_ok-second.ensures.exact
