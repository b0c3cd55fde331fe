use Rattle.std.proofs.Common.{◌∷◌, sym, codes}
use Rattle.strategy_text.specs.Text.{list_words}
use Rattle.match_player.proofs.WordLemmas.{put_more}
use Rattle.match_player.proofs.words.put_next_bins.Goals as goal

pub loop-bin-preserved : goal.loop-bin-preserved
loop-bin-preserved c =
    put_more (λ bin. codes "/" ∷ list_words bin) c.args.bins.now c.loop-bin.bin-index c.bin-item.result _ _ _ c.loop-bin-test.true (sym c.bin-item.is)
    c.loop-bin.invariant c.in_ok-put_next_bin.ensures
