use Rattle.std.proofs.Common.{◌-◌, ◌*◌, ◌%◌, ℕ, arith, subst}
use Rattle.reach_planes.specs.Words.{AreJoined}
use Rattle.reach_planes.proofs.PassLemmas.{went_up}
use Rattle.reach_planes.proofs.rows.put_up.Goals as goal

pub returns-clause-put : goal.returns-clause-put
returns-clause-put c row bit lr lb =
    let mask : ℕ = c.ones_up_to-mask.result in
    let half : ℕ = c.args.half in
    let rows : ℕ = c.args.rows in
    let j =
    subst (λ up. AreJoined up 0 mask rows (half * rows) ((half - c.from-whole.result) * rows) c.args.source.now c.args.words.now c.join.new.words) c.from.ensures c.join.ensures in
    let k = subst (λ whole. AreJoined (c.args.s % 64) 0 mask rows (half * rows)
    ((half - whole) * rows) c.args.source.now c.args.words.now c.join.new.words) c.from-whole.ensures j in
    went_up rows c.args.capacity c.args.s half row bit mask c.args.source.now c.args.words.now c.join.new.words k (omega (arith, c.from-whole.ensures, c.if-half-whole.false))
    (omega (arith, c.requires.in_plane)) c.ones_up_to-mask.ensures lr lb
