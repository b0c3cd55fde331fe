use Rattle.std.proofs.Common.{arith, refl}
use Rattle.std.proofs.lemmas.List.{take_all}
use Rattle.std.proofs.lemmas.List.Elements.{All-more}
use Rattle.algorithm_graph.specs.Rules.{NamesLoad}
use Rattle.algorithm_graph.proofs.rules.name_loads.Goals as goal

pub loop-entry-preserved : goal.loop-entry-preserved
loop-entry-preserved c =
    All-more (NamesLoad c.args.game.now c.args.loads.now) c.args.entries.now c.loop-entry.entry-index
    (record { size = 0; load = 0; to = 0 }) c.loop-entry-test.true c.loop-entry.invariant
    (c.if-not-names_load.ensures.exact.0 refl)

pub returns : goal.returns
returns c = (λ _. rw (take_all c.loop-entry.entry-index c.args.entries.now (omega arith)) at c.loop-entry.invariant, λ _. refl)
