use Rattle.std.proofs.Common.{inl}
use Rattle.stretch_bench.proofs.LegalLemmas.{spellable}
use Rattle.stretch_bench.proofs.OutcomeLemmas.{weakened_due}
use Rattle.stretch_bench.proofs.weakening.weakened.Goals as goal

pub of_strategy-requires : goal.of_strategy-requires
of_strategy-requires c = spellable c.in_ok-made-in-Ok.made c.in_ok-made-in-Ok.ensures.legal

pub returns-in-Ok : goal.returns-in-Ok
returns-in-Ok c = record {
  made = inl (weakened_due c.args.target c.args.strategy c.in-Ok.weaker c.in_ok-made-in-Ok.made c.of_strategy.result c.in-Ok.ensures.exact.0
      c.in-Ok.ensures.exact.1 c.in-Ok.ensures.legal c.in-Ok.ensures.side c.in_ok-made-in-Ok.ensures.exact c.of_strategy.ensures);
}
