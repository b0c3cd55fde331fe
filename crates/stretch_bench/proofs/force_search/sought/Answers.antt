use Rattle.stretch_bench.proofs.ForceLemmas.{sought_due, sought_legal}
use Rattle.stretch_bench.proofs.LegalLemmas.{spellable}
use Rattle.stretch_bench.proofs.force_search.sought.Goals as goal

pub minimise-requires : goal.minimise-requires
minimise-requires c = record { legal = sought_legal c.args.game.now c.args.strategy.now c.requires.sought }

pub of_strategy-requires : goal.of_strategy-requires
of_strategy-requires c = spellable c.in_ok-made.made c.in_ok-made.ensures.legal

pub returns : goal.returns
returns c = record {
  forcing = sought_due c.args.game.now c.args.strategy.now c.in_ok-made.made c.of_strategy.result c.requires.sought c.in_ok-made.ensures.exact
      c.of_strategy.ensures;
}
