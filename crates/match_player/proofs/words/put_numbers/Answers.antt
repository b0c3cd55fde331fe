use Rattle.std.proofs.Common.{[], ◌∷◌, sym}
use Rattle.match_player.proofs.WordLemmas.{put_more}
use Rattle.match_player.proofs.words.put_numbers.Goals as goal

pub loop-number-preserved : goal.loop-number-preserved
loop-number-preserved g c =
    put_more (λ n. g.T.Integer.text n ∷ []) c.args.list.now c.loop-number.number-index c.number-item.result _ _ _ c.loop-number-test.true
    (sym c.number-item.is) c.loop-number.invariant c.in_ok-put_number.ensures
