use Rattle.stretch_bench.proofs.WordLemmas.{only_word}
use Rattle.stretch_bench.proofs.command.is_word.Goals as goal

pub returns : goal.returns
returns c = record {
  exact = only_word c.args.words.now c.only-item.result c.as_str.result.now c.args.word.now c.eq.result c.in-len1.len_at_least c.in-len1.len_below
      c.only-item.is c.as_str.ensures.value c.eq.ensures;
}
