use Rattle.std.proofs.Common.{◌∙◌}
use Rattle.match_player.proofs.AnswerLemmas.{kept_below}
use Rattle.match_player.proofs.answers.answer.Goals as goal

pub returns-clause-below : goal.returns-clause-below
returns-clause-below c =
    kept_below c.args.algorithm.now c.game-game.result c.args.items.now _ c.file_is_legal.ensures.legal c.game-game.ensures.value
    (c.in_ok-is_packable.ensures.0 c.if-not-branch.false)
    (c.in_ok-from_slice-2.ensures.ok ∙ c.as_slice.ensures.value ∙ c.loads_after-loads.ensures.run)
