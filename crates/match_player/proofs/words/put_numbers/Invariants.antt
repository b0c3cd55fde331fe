use Rattle.std.proofs.Common.{◌≡◌, [], ◌∷◌, ◌++◌, take}
use Rattle.strategy_text.proofs.Spaced.{each_spaced}
use Rattle.match_player.proofs.words.put_numbers.Given as goal

abbrev pub invariant-loop-number : goal.invariant-loop-number
invariant-loop-number g l = l.text ≡ l.fn.text ++ each_spaced (λ n. g.T.Integer.text n ∷ []) (take l.number-index l.list)
