use Rattle.stretch_bench.proofs.LegalLemmas.{adversary_legal_too, spellable}
use Rattle.stretch_bench.proofs.scaling.scaled.Goals as goal

pub of_strategy-requires : goal.of_strategy-requires
of_strategy-requires c = spellable c.in-Ok.made (adversary_legal_too c.in-Ok.made c.in-Ok.ensures.legal)
