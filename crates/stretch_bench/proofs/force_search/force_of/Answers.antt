use Rattle.std.proofs.Common.{codes, ◌∙◌, arith}
use Rattle.std.specs.Cmp.Lexicographic.{same_text}
use Rattle.stretch_bench.specs.Commands.{spelling_of}
use Rattle.stretch_bench.proofs.WordLemmas.{length_spelled, seven_words, spelled_at, was_same, word_at}
use Rattle.stretch_bench.proofs.ForceLemmas.{pass_within}
use Rattle.stretch_bench.proofs.force_search.force_of.Goals as goal

pub returns-in_default-pass_of : goal.returns-in_default-pass_of
returns-in_default-pass_of c players game pass budget table spells =
    let read = c.in-Some.ensures in
    c.in_default-pass_of.ensures pass
    (pass_within _ c.in-Some.game game _ _ pass read.capacity_is
    (spelled_at c.args.words.now 2 c.capacity-item.result _ _ (omega (arith, c.in-len7.len_at_least)) c.capacity-item.is c.as_str-3.ensures.value spells.spelled)
    read.of_game spells.allowed.of_game c.g.ensures.value c.from.ensures spells.allowed.a_pass)
    (spelled_at c.args.words.now 4 c.pass-item.result _ _ (omega (arith, c.in-len7.len_at_least)) c.pass-item.is c.as_str-5.ensures.value spells.spelled)

pub returns-in_default-setting_of : goal.returns-in_default-setting_of
returns-in_default-setting_of c players game pass budget table spells =
    c.in_default-setting_of.ensures budget spells.allowed.some_visits spells.allowed.most_visits
    (spelled_at c.args.words.now 5 c.budget-item.result _ _ (omega (arith, c.in-len7.len_at_least)) c.budget-item.is c.as_str-6.ensures.value spells.spelled)

pub returns-in_default-setting_of-2 : goal.returns-in_default-setting_of-2
returns-in_default-setting_of-2 c players game pass budget table spells =
    c.in_default-setting_of-2.ensures table spells.allowed.some_entries spells.allowed.most_entries
    (spelled_at c.args.words.now 6 c.table-item.result _ _ (omega (arith, c.in-len7.len_at_least)) c.table-item.is c.as_str-7.ensures.value spells.spelled)

pub returns : goal.returns
returns c players =
    let words = c.args.words.now in
    let low = c.in-len7.len_at_least in
    let high = c.in-len7.len_below in
    let game = c.in-Some.ensures in
    record {
      spelled = seven_words (spelling_of words) _ _ _ _ _ _ _ (omega (arith, length_spelled words, low, high))
          (word_at words 0 c.first-item.result _ (omega (arith, low)) c.first-item.is c.as_str.ensures.value
          ∙ same_text _ (codes "force") (was_same _ c.if-ne.ensures))
          (word_at words 1 c.bins-item.result _ (omega (arith, low)) c.bins-item.is c.as_str-2.ensures.value ∙ game.bins_are)
          (word_at words 2 c.capacity-item.result _ (omega (arith, low)) c.capacity-item.is c.as_str-3.ensures.value ∙ game.capacity_is)
          (word_at words 3 c.target-item.result _ (omega (arith, low)) c.target-item.is c.as_str-4.ensures.value ∙ game.target_is)
          (word_at words 4 c.pass-item.result _ (omega (arith, low)) c.pass-item.is c.as_str-5.ensures.value ∙ c.in-Some-pass_of.ensures.0)
          (word_at words 5 c.budget-item.result _ (omega (arith, low)) c.budget-item.is c.as_str-6.ensures.value ∙ c.in-Some-setting_of.ensures.0)
          (word_at words 6 c.table-item.result _ (omega (arith, low)) c.table-item.is c.as_str-7.ensures.value ∙ c.in-Some-setting_of-2.ensures.0);
      allowed = record {
        of_game = game.of_game;
        a_pass = omega (arith, c.in-Some-pass_of.ensures.1, c.g.ensures.value, game.of_game.capacity.low);
        some_visits = c.in-Some-setting_of.ensures.1;
        most_visits = c.in-Some-setting_of.ensures.2;
        some_entries = c.in-Some-setting_of-2.ensures.1;
        most_entries = c.in-Some-setting_of-2.ensures.2;
      };
    }
