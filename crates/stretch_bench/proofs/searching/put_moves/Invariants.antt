use Rattle.std.proofs.Common.{◌≡◌, [], ◌∷◌, ◌++◌, take}
use Rattle.stretch_bench.specs.Search.{move_word}
use Rattle.strategy_text.proofs.Spaced.{each_spaced}
use Rattle.stretch_bench.proofs.searching.put_moves.Given as goal

abbrev pub invariant-loop-step : goal.invariant-loop-step
invariant-loop-step l = l.text ≡ l.fn.text ++ each_spaced (λ step. move_word step ∷ []) (take l.step-index l.path)
