use Rattle.std.proofs.lemmas.Simd.{length-chunk}
use Rattle.reach_planes.proofs.LaneLemmas.{AreJoined-lanes}
use Rattle.reach_planes.proofs.words.join_lanes.Goals as goal

pub returns : goal.returns
returns c =
    AreJoined-lanes c.args.by.up c.args.by.down c.args.by.mask c.args.to c.args.from c.args.source.now c.args.words.now c.moved_lanes.result c.requires.to
    c.moved_lanes.ensures.four c.moved_lanes.ensures.moved

pub moved_lanes-requires-clause-four : goal.moved_lanes-requires-clause-four
moved_lanes-requires-clause-four c = length-chunk c.args.from 4 c.args.source.now c.requires.from
