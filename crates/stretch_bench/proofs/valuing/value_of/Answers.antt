use Rattle.std.proofs.Common.{codes, ◌∙◌, arith}
use Rattle.std.specs.Cmp.Lexicographic.{same_text}
use Rattle.stretch_bench.specs.Commands.{spelling_of}
use Rattle.stretch_bench.proofs.WordLemmas.{five_words, length_spelled, spelled_at, was_same, word_at}
use Rattle.stretch_bench.proofs.valuing.value_of.Goals as goal

pub returns-in_default-setting_of : goal.returns-in_default-setting_of
returns-in_default-setting_of c players bins capacity budget table spells =
    c.in_default-setting_of.ensures budget spells.allowed.setting.some_visits spells.allowed.setting.most_visits
    (spelled_at c.args.words.now 3 c.budget-item.result _ _ (omega (arith, c.in-len5.len_at_least)) c.budget-item.is c.as_str-4.ensures.value spells.spelled)

pub returns-in_default-setting_of-2 : goal.returns-in_default-setting_of-2
returns-in_default-setting_of-2 c players bins capacity budget table spells =
    c.in_default-setting_of-2.ensures table spells.allowed.setting.some_entries spells.allowed.setting.most_entries
    (spelled_at c.args.words.now 4 c.table-item.result _ _ (omega (arith, c.in-len5.len_at_least)) c.table-item.is c.as_str-5.ensures.value spells.spelled)

pub returns : goal.returns
returns c players =
    let words = c.args.words.now in
    let low = c.in-len5.len_at_least in
    let high = c.in-len5.len_below in
    record {
      spelled = five_words (spelling_of words) _ _ _ _ _ (omega (arith, length_spelled words, low, high))
          (word_at words 0 c.first-item.result _ (omega (arith, low)) c.first-item.is c.as_str.ensures.value
          ∙ same_text _ (codes "value") (was_same _ c.if-ne.ensures))
          (word_at words 1 c.bins-item.result _ (omega (arith, low)) c.bins-item.is c.as_str-2.ensures.value ∙ c.in-Some.ensures.exact.0)
          (word_at words 2 c.capacity-item.result _ (omega (arith, low)) c.capacity-item.is c.as_str-3.ensures.value ∙ c.in-Some-number_of.ensures.exact.0)
          (word_at words 3 c.budget-item.result _ (omega (arith, low)) c.budget-item.is c.as_str-4.ensures.value ∙ c.in-Some-setting_of.ensures.0)
          (word_at words 4 c.table-item.result _ (omega (arith, low)) c.table-item.is c.as_str-5.ensures.value ∙ c.in-Some-setting_of-2.ensures.0);
      allowed = record {
        of_bins = record { low = c.in-Some.ensures.exact.1; high = c.in-Some.ensures.exact.2 };
        of_capacity = record { low = c.in-Some-number_of.ensures.exact.1; high = c.in-Some-number_of.ensures.exact.2 };
        setting = record {
          some_visits = c.in-Some-setting_of.ensures.1;
          most_visits = c.in-Some-setting_of.ensures.2;
          some_entries = c.in-Some-setting_of-2.ensures.1;
          most_entries = c.in-Some-setting_of-2.ensures.2;
        };
      };
    }
