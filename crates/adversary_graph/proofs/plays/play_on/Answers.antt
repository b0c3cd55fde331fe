use Rattle.std.proofs.Common.{◌+◌, None, ◌∙◌, arith, refl}
use Rattle.adversary_graph.proofs.PlayLemmas.{goes_to_child, goes_to_end, root_ready}
use Rattle.adversary_graph.proofs.plays.play_on.Goals as goal

pub loop-child-init : goal.loop-child-init
loop-child-init g c =
    let pool = c.args.pool.now in
    let answer = g.O.Online.answer c.args.player.now pool.game in
    let ready = root_ready pool answer c.args.root c.pool_is_legal.ensures c.requires.root in
    (c.requires.course, rw c.requires.none ready, (c.args.root + 1, omega arith, rw c.requires.none refl))

pub loop-child-smaller : goal.loop-child-smaller
loop-child-smaller g c =
    let step = rw c.in-Some.is at c.in_ok-child.ensures.step in
    (step.2 (λ child items. None)).0

pub loop-child-preserved : goal.loop-child-preserved
loop-child-preserved g c =
    let pool = c.args.pool.now in
    let answer = g.O.Online.answer c.args.player.now pool.game in
    let step = rw c.in-Some.is at c.in_ok-child.ensures.step in
    let whole = c.loop-child.invariant.2 in
    let goes = goes_to_child pool.game answer pool.nodes whole.0 c.loop-child.number c.in-Some.child c.loop-child.course.items c.play_step.new.course.items whole.1 step in
    (c.in_ok-child.ensures.course, (step.2 (λ child items. None)).1, (goes.0, goes.1, whole.2 ∙ goes.2))

pub returns-in-None-clause-end : goal.returns-in-None-clause-end
returns-in-None-clause-end g c =
    let pool = c.args.pool.now in
    let answer = g.O.Online.answer c.args.player.now pool.game in
    let step = rw c.in-None.is at c.in_ok-child.ensures.step in
    let whole = c.loop-child.invariant.2 in
    whole.2 ∙ goes_to_end pool.game answer pool.nodes whole.0 c.loop-child.number c.loop-child.course.items c.play_step.new.course.items whole.1 step
