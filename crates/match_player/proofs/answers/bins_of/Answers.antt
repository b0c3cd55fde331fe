use Rattle.std.proofs.Common.{◌+◌}
use Rattle.online_play.proofs.PlayLemmas.{Packable-take}
use Rattle.match_player.proofs.AnswerLemmas.{bins_more}
use Rattle.match_player.proofs.answers.bins_of.Goals as goal

pub place-requires-clause-packable : goal.place-requires-clause-packable
place-requires-clause-packable g c = Packable-take c.args.game.now (c.loop-i.i + 1) c.args.items.now c.requires.packable

pub loop-i-preserved : goal.loop-i-preserved
loop-i-preserved g c =
    bins_more (g.O.Online.answer c.args.player.now c.args.game.now) c.args.items.now c.loop-i.i _ c.loop-i.bins _ c.loop-i-test.true c.loop-i.invariant
    c.place.ensures.value c.in_ok-push.ensures.ok
