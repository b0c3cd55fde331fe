use Rattle.report.proofs.WayLemmas.{known_entries}
use Rattle.report.proofs.depth.AlgNodeWalked.depth.Goals as goal

pub depth_of_entries-requires : goal.depth_of_entries-requires
depth_of_entries-requires c =
    known_entries c.args.depths.now c.args.self.now c.in-Reply.entries c.as_slice.result.now c.in-Reply.is c.as_slice.ensures.value
    c.requires
