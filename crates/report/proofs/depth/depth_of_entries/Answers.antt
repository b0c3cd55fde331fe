use Rattle.report.specs.Ways.{goes_to}
use Rattle.report.proofs.WalkLemmas.{depth_by_more}
use Rattle.report.proofs.depth.depth_of_entries.Goals as goal

pub loop-entry-preserved : goal.loop-entry-preserved
loop-entry-preserved c =
    let l = c.loop-entry in
    depth_by_more (λ entry. goes_to entry.to) c.args.depths.now c.args.entries.now l.entry-index _ l.depth _ _ c.loop-entry-test.true
    l.invariant c.items_along.ensures c.max-depth.ensures
