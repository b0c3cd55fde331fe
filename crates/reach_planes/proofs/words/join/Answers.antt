use Rattle.std.proofs.Common.{◌≡◌, ◌+◌, ◌*◌, subst, arith}
use Rattle.reach_planes.specs.Words.{AreJoined}
use Rattle.reach_planes.proofs.LaneLemmas.{AreJoined-append}
use Rattle.reach_planes.proofs.words.join.Goals as goal

pub loop-i-preserved : goal.loop-i-preserved
loop-i-preserved c =
    let e : 4 * c.loop-i.i + 4 ≡ 4 * (c.loop-i.i + 1) = omega arith in
    subst (λ n. AreJoined c.args.by.up c.args.by.down c.args.by.mask n c.args.to c.args.from c.args.source.now c.args.words.now c.join_lanes.new.words) e
    (AreJoined-append c.args.by.up c.args.by.down c.args.by.mask (4 * c.loop-i.i) 4 c.args.to c.args.from c.args.source.now c.args.words.now c.loop-i.words c.join_lanes.new.words
    c.loop-i.invariant c.join_lanes.ensures)
