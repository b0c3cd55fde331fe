use Rattle.reach_planes.proofs.PassLemmas.{gone_either_way}
use Rattle.reach_planes.proofs.rows.put_in_half.Goals as goal

pub returns-clause-put : goal.returns-clause-put
returns-clause-put c row bit lr lb =
    gone_either_way c.args.rows c.args.capacity c.args.s c.args.half row bit c.args.source.now c.args.words.now c.put_up.new.words c.put_down.new.words lb
    (c.put_up.ensures.put row bit lr lb) (c.put_down.ensures.put row bit lr lb)
