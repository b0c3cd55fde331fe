use Rattle.std.proofs.Common.{◌++◌, subst}
use Rattle.items.specs.Packable.{Packable}
use Rattle.strategy_text.specs.declared.node.Step.{Step}
use Rattle.adversary_graph.specs.Nodes.{sent_items}
use Rattle.adversary_graph.proofs.PlayLemmas.{ready_at, ready_packable, send_step}
use Rattle.adversary_graph.proofs.plays.play_step.Goals as goal

pub send-requires-clause-packable : goal.send-requires-clause-packable
send-requires-clause-packable g c =
    let pool = c.args.pool.now in
    let answer = g.O.Online.answer c.args.player.now pool.game in
    let algorithm = g.O.Online.is_algorithm c.args.player.now pool.game c.pool_is_legal.ensures.of_game in
    let items = c.args.course.now.items in
    let at = ready_at pool.game answer pool.nodes c.args.number items c.node.result.now c.requires.ready c.node.ensures.value in
    let packable = ready_packable pool c.pool_is_legal.ensures answer algorithm c.args.number items c.node.result.now c.node.ensures.value at in
    rw c.game-game.ensures.value (subst (λ (step : Step). Packable pool.game (items ++ sent_items step)) c.in-Send.is packable)

pub send_times-requires-clause-packable : goal.send_times-requires-clause-packable
send_times-requires-clause-packable g c =
    let pool = c.args.pool.now in
    let answer = g.O.Online.answer c.args.player.now pool.game in
    let algorithm = g.O.Online.is_algorithm c.args.player.now pool.game c.pool_is_legal.ensures.of_game in
    let items = c.args.course.now.items in
    let at = ready_at pool.game answer pool.nodes c.args.number items c.node.result.now c.requires.ready c.node.ensures.value in
    let packable = ready_packable pool c.pool_is_legal.ensures answer algorithm c.args.number items c.node.result.now c.node.ensures.value at in
    rw c.game-game.ensures.value (subst (λ (step : Step). Packable pool.game (items ++ sent_items step)) c.in-Burst.is packable)

pub returns-in_ok-load-in-Send-clause-step : goal.returns-in_ok-load-in-Send-clause-step
returns-in_ok-load-in-Send-clause-step g c =
    let pool = c.args.pool.now in
    let answer = g.O.Online.answer c.args.player.now pool.game in
    let algorithm = g.O.Online.is_algorithm c.args.player.now pool.game c.pool_is_legal.ensures.of_game in
    let items = c.args.course.now.items in
    let at = ready_at pool.game answer pool.nodes c.args.number items c.node.result.now c.requires.ready c.node.ensures.value in
    let step = send_step pool c.pool_is_legal.ensures answer algorithm c.args.number items c.node.result.now c.in-Send.size c.in-Send.pack c.in-Send.placements
    c.node.ensures.value c.in-Send.is at in
    rw (c.child_at.ensures, c.in_ok-load-in-Send.ensures.load, c.as_slice.ensures.value, c.in_ok-load-in-Send.ensures.sent, c.game-game.ensures.value) step
