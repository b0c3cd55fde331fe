use Rattle.std.proofs.Common.{◌≡◌, map, take}
use Rattle.report.specs.Measuring.{depth_by}
use Rattle.report.specs.Ways.{way_of}
use Rattle.report.proofs.depth.depth_of_placements.Given as goal

abbrev pub invariant-loop-placement : goal.invariant-loop-placement
invariant-loop-placement l =
    l.depth ≡ depth_by l.depths (map (λ placement. way_of placement.next) (take l.placement-index l.placements))
