use Rattle.std.proofs.Common.{◌-◌, ◌*◌, ◌%◌, ℕ, arith, subst}
use Rattle.reach_planes.specs.Words.{AreJoined}
use Rattle.reach_planes.proofs.PassLemmas.{went_down}
use Rattle.reach_planes.proofs.rows.put_down.Goals as goal

pub returns-clause-put : goal.returns-clause-put
returns-clause-put c row bit lr lb =
    let mask : ℕ = c.ones_up_to-kept.result in
    let half : ℕ = c.args.half in
    let rows : ℕ = c.args.rows in
    let j = subst (λ part. AreJoined 0 (64 - part) mask rows (half * rows)
    ((half - c.from-whole.result - 1) * rows) c.args.source.now c.args.words.now c.join.new.words) c.from.ensures c.join.ensures in
    let k = subst (λ whole. AreJoined 0 (64 - c.args.s % 64) mask rows (half * rows)
    ((half - whole - 1) * rows) c.args.source.now c.args.words.now c.join.new.words) c.from-whole.ensures j in
    went_down rows c.args.capacity c.args.s half row bit mask c.args.source.now c.args.words.now c.join.new.words k (omega (arith, c.from-whole.ensures, c.if-half-whole.false))
    (omega (arith, c.if-s-eq0.false)) (omega (arith, c.requires.in_plane)) c.ones_up_to-kept.ensures lr lb
