use Rattle.stretch_bench.proofs.LegalLemmas.{spellable}
use Rattle.stretch_bench.proofs.OutcomeLemmas.{found_due}
use Rattle.stretch_bench.proofs.searching.found.Goals as goal

pub of_strategy-requires : goal.of_strategy-requires
of_strategy-requires c = spellable c.in_ok-made.made c.in_ok-made.ensures.legal

pub returns : goal.returns
returns c = record {
  found = found_due c.args.game.now c.args.budget c.args.strategy.now c.in_ok-made.made c.of_strategy.result c.requires.legal c.requires.found
      c.in_ok-made.ensures.exact c.of_strategy.ensures;
}
