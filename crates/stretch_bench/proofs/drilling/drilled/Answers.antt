use Rattle.stretch_bench.proofs.LegalLemmas.{spellable}
use Rattle.stretch_bench.proofs.drilling.drilled.Goals as goal

pub text_of-requires : goal.text_of-requires
text_of-requires c = spellable c.in_ok-strategy.strategy c.in_ok-strategy.ensures.legal
