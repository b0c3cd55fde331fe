use Rattle.std.proofs.Common.{codes, ◌∙◌, arith}
use Rattle.std.specs.Cmp.Lexicographic.{same_text}
use Rattle.stretch_bench.specs.Commands.{spelling_of}
use Rattle.stretch_bench.proofs.WordLemmas.{length_spelled, three_words, was_same, word_at}
use Rattle.stretch_bench.proofs.drilling.drill_of.Goals as goal

pub returns : goal.returns
returns c players =
    let words = c.args.words.now in
    let low = c.in-len3.len_at_least in
    let high = c.in-len3.len_below in
    record {
      spelled = three_words (spelling_of words) _ _ _ (omega (arith, length_spelled words, low, high))
          (word_at words 0 c.first-item.result _ (omega (arith, low)) c.first-item.is c.as_str.ensures.value
          ∙ same_text _ (codes "drill") (was_same _ c.if-ne.ensures))
          (word_at words 1 c.number-item.result _ (omega (arith, low)) c.number-item.is c.as_str-2.ensures.value ∙ c.in-Some.ensures.exact.0)
          (word_at words 2 c.copies-item.result _ (omega (arith, low)) c.copies-item.is c.as_str-3.ensures.value ∙ c.in-Some-number_of.ensures.exact.0);
      allowed = record {
        in_range = c.in-Some.ensures.exact.2;
        some = c.in-Some-number_of.ensures.exact.1;
        most = omega (arith, c.in-Some-number_of.ensures.exact.2, c.from.ensures);
      };
    }
