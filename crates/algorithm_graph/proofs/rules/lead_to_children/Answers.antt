use Rattle.std.proofs.Common.{arith, refl}
use Rattle.std.proofs.lemmas.List.{take_all}
use Rattle.std.proofs.lemmas.List.Elements.{All-more}
use Rattle.loads.specs.Position.{position}
use Rattle.algorithm_graph.specs.Judging.{LeadsOn}
use Rattle.algorithm_graph.proofs.rules.lead_to_children.Goals as goal

pub loop-entry-preserved : goal.loop-entry-preserved
loop-entry-preserved g c =
    All-more (LeadsOn (g.E.EarlierPositions.positions c.args.earlier.now) (position c.args.loads.now c.args.items.now)) c.args.entries.now c.loop-entry.entry-index
    (record { size = 0; load = 0; to = 0 }) c.loop-entry-test.true c.loop-entry.invariant (c.if-not-leads_to_child.ensures.exact.0 refl)

pub returns : goal.returns
returns g c =
    record { exact = (λ _. rw (take_all c.loop-entry.entry-index c.args.entries.now (omega arith)) at c.loop-entry.invariant, λ _. refl) }
