use Rattle.std.proofs.Common.{◌≡◌, ◌∷◌, ◌++◌, take, codes}
use Rattle.strategy_text.specs.Text.{list_words}
use Rattle.strategy_text.proofs.Spaced.{each_spaced}
use Rattle.match_player.proofs.words.put_next_bins.Given as goal

abbrev pub invariant-loop-bin : goal.invariant-loop-bin
invariant-loop-bin l = l.text ≡ l.fn.text ++ each_spaced (λ bin. codes "/" ∷ list_words bin) (take l.bin-index l.bins)
