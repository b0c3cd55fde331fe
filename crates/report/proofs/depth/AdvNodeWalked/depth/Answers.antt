use Rattle.report.proofs.WayLemmas.{known_placements}
use Rattle.report.proofs.depth.AdvNodeWalked.depth.Goals as goal

pub depth_of_placements-requires : goal.depth_of_placements-requires
depth_of_placements-requires c =
    known_placements c.args.depths.now c.args.self.now c.in-Send.size c.in-Send.pack c.in-Send.placements c.as_slice.result.now
    c.in-Send.is c.as_slice.ensures.value c.requires
