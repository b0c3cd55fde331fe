use Rattle.std.proofs.Common.{◌≡◌, All, decimal, map, take}
use Rattle.strategy_text.specs.Spelling.{IsNumber}
use Rattle.checker.proofs.sizes.numbers_of.Given as goal

abbrev pub invariant-loop-word : goal.invariant-loop-word
invariant-loop-word l = (map (λ word. word.now) (take l.word-index l.words.items) ≡ map decimal l.list) × All IsNumber l.list
