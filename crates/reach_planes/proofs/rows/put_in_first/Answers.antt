use Rattle.reach_planes.proofs.PassLemmas.{HaveGoneUpTo-more}
use Rattle.reach_planes.proofs.rows.put_in_first.Goals as goal

pub loop-half-preserved : goal.loop-half-preserved
loop-half-preserved c =
    HaveGoneUpTo-more c.loop-half.half c.args.rows c.args.capacity c.args.s c.args.source.now c.args.words.now c.loop-half.words c.put_in_half.new.words c.loop-half.invariant
    c.put_in_half.ensures.put c.put_in_half.ensures.others
