use Rattle.std.proofs.Common.{◌∷◌, [], decimal, refl, ◌∙◌, arith}
use Rattle.std.specs.Cmp.Lexicographic.{same_text}
use Rattle.stretch_bench.specs.Commands.{spelling_of}
use Rattle.stretch_bench.proofs.WordLemmas.{length_spelled, other_at, told_after, two_words, was_other, was_same, word_at}
use Rattle.stretch_bench.proofs.number.number_after.Goals as goal

pub returns-then-ne : goal.returns-then-ne
returns-then-ne c = record {
  exact = λ n low high.
      other_at c.args.words.now 0 c.first-item.result _ c.args.name.now (c.args.name.now ∷ decimal n ∷ []) (omega (arith, c.in-len2.len_at_least)) c.first-item.is
      c.as_str.ensures.value (was_other _ c.if-ne.ensures) refl;
}

pub returns : goal.returns
returns c =
    let words = c.args.words.now in
    let low = c.in-len2.len_at_least in
    let high = c.in-len2.len_below in
    record {
      exact = told_after (spelling_of words) c.args.name.now _ c.args.high c.number_of.result
          (two_words (spelling_of words) _ _ (omega (arith, length_spelled words, low, high))
          (word_at words 0 c.first-item.result _ (omega (arith, low)) c.first-item.is c.as_str.ensures.value ∙ same_text _ c.args.name.now (was_same _ c.if-ne.ensures))
          (word_at words 1 c.number-item.result _ (omega (arith, low)) c.number-item.is c.as_str-2.ensures.value))
          c.number_of.ensures.exact;
    }
