use Rattle.match_player.proofs.AnswerLemmas.{shorter_more}
use Rattle.match_player.proofs.answers.least_unpackable.Goals as goal

pub loop-k-preserved : goal.loop-k-preserved
loop-k-preserved c =
    shorter_more c.args.game.now c.args.items.now c.loop-k.k c.loop-k.invariant (c.in_ok-is_packable.ensures.0 c.if-not-branch.false)
