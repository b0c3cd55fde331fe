use Rattle.stretch_bench.proofs.AnswerLemmas.{no_item}
use Rattle.stretch_bench.proofs.answering.item_list.Goals as goal

pub returns-in_default : goal.returns-in_default
returns-in_default c =
    no_item c.args.words.now c.loop-word.word-index c.from.result c.word-item.result c.as_str.result.now c.loop-word-test.true c.word-item.is
    c.as_str.ensures.value c.from.ensures c.in_default.ensures.exact
