use Rattle.report.specs.Ways.{way_of}
use Rattle.report.proofs.WalkLemmas.{depth_by_more}
use Rattle.report.proofs.depth.depth_of_placements.Goals as goal

pub loop-placement-preserved : goal.loop-placement-preserved
loop-placement-preserved c =
    let l = c.loop-placement in
    depth_by_more (λ placement. way_of placement.next) c.args.depths.now c.args.placements.now l.placement-index _ l.depth _ _ c.loop-placement-test.true
    l.invariant c.items_along.ensures c.max-depth.ensures
