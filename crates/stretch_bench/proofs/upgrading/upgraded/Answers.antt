use Rattle.stretch_bench.proofs.LegalLemmas.{spellable}
use Rattle.stretch_bench.proofs.OutcomeLemmas.{upgrade_due}
use Rattle.stretch_bench.proofs.upgrading.upgraded.Goals as goal

pub of_strategy-requires : goal.of_strategy-requires
of_strategy-requires c = spellable c.in_ok-made.made c.in_ok-made.ensures.legal

pub returns : goal.returns
returns c = record {
  made = upgrade_due c.args.strategy c.in_ok-made.made c.of_strategy.result c.requires.legal c.in_ok-made.ensures.upgrade c.of_strategy.ensures;
}
