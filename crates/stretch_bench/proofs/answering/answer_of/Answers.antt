use Rattle.std.proofs.Common.{codes}
use Rattle.stretch_bench.proofs.AnswerLemmas.{answer_words}
use Rattle.stretch_bench.proofs.WordLemmas.{rest_spelled, was_same}
use Rattle.stretch_bench.proofs.answering.answer_of.Goals as goal

pub returns : goal.returns
returns c = λ players.
    answer_words players _ _ c.item_list.result
    (rest_spelled c.args.words.now c.first-item.result _ (codes "answer") c.in-len1-up.len_at_least c.first-item.is c.as_str.ensures.value (was_same _ c.if-ne.ensures))
    c.item_list.ensures
