use Rattle.std.proofs.lemmas.Bool.{false≢true}
use Rattle.strategy_text.proofs.FirstWord.{too_short}
use Rattle.strategy_text.proofs.words.is_first.Goals as goal

pub returns-then-bytes-word : goal.returns-then-bytes-word
returns-then-bytes-word c = record {
  exact = (λ t. absurd (false≢true t), λ e. absurd (too_short c.args.bytes.now c.args.word.now c.if-bytes-word.true e));
}
