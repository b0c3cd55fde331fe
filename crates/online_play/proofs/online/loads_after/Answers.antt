use Rattle.std.proofs.Common.{◌+◌, ◌∙◌}
use Rattle.online_play.proofs.WonLemmas.{run-nil}
use Rattle.online_play.proofs.PlayLemmas.{Packable-take, bin_in_range, load_fits, run_more}
use Rattle.online_play.proofs.online.loads_after.Goals as goal

pub loop-i-init : goal.loop-i-init
loop-i-init g c = c.zero-actual.ensures.value ∙ run-nil c.args.game.now (g.O.Online.answer c.args.player.now c.args.game.now)

pub place-bin-requires-clause-packable : goal.place-bin-requires-clause-packable
place-bin-requires-clause-packable g c = Packable-take c.args.game.now (c.loop-i.i + 1) c.args.history.now c.requires.packable

-- the bin is below m, since the player is an algorithm of the game
pub put-requires-clause-in_range : goal.put-requires-clause-in_range
put-requires-clause-in_range g c =
    bin_in_range c.args.game.now (g.O.Online.answer c.args.player.now c.args.game.now) c.args.history.now c.zero-actual.ensures.legal
    (g.O.Online.is_algorithm c.args.player.now c.args.game.now c.zero-actual.ensures.legal) c.requires.packable
    c.loop-i.i c.place-bin.result c.loop-i.actual c.loop-i.invariant c.loop-i-test.true c.place-bin.ensures.value

pub put-requires-clause-fits : goal.put-requires-clause-fits
put-requires-clause-fits g c =
    load_fits c.args.game.now (g.O.Online.answer c.args.player.now c.args.game.now) c.args.history.now c.zero-actual.ensures.legal
    (g.O.Online.is_algorithm c.args.player.now c.args.game.now c.zero-actual.ensures.legal) c.requires.packable
    c.loop-i.i c.place-bin.result c.loop-i.actual c.loop-i.invariant (put-requires-clause-in_range g c) c.loop-i-test.true

pub loop-i-preserved : goal.loop-i-preserved
loop-i-preserved g c =
    let legal = c.zero-actual.ensures.legal in
    let algorithm = g.O.Online.is_algorithm c.args.player.now c.args.game.now legal in
    let answer = g.O.Online.answer c.args.player.now c.args.game.now in
    let within = bin_in_range c.args.game.now answer c.args.history.now legal algorithm c.requires.packable
    c.loop-i.i c.place-bin.result c.loop-i.actual c.loop-i.invariant c.loop-i-test.true c.place-bin.ensures.value in
    run_more c.args.game.now answer c.args.history.now legal algorithm c.requires.packable c.loop-i.i c.place-bin.result c.loop-i.actual c.put.new.self
    c.loop-i.invariant c.loop-i-test.true within c.place-bin.ensures.value c.put.ensures.added
