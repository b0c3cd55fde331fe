use Rattle.stretch_bench.proofs.ValueLemmas.{one_due}
use Rattle.stretch_bench.proofs.valuing.due_of_one.Goals as goal

pub returns : goal.returns
returns c = one_due c.args.line c.args.only.now c.in_ok-only.only c.in_ok-only.ensures.legal c.in_ok-only.ensures.exact
