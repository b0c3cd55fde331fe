use Rattle.std.proofs.Common.{◌≡◌, drop, false}
use Rattle.std.specs.Prelude.{◌↔◌}
use Rattle.strategy_text.specs.Words.{first_word, has_space}
use Rattle.strategy_text.proofs.words.is_first.Given as goal

abbrev pub invariant-loop-i : goal.invariant-loop-i
invariant-loop-i l = record {
  same : (first_word l.bytes ≡ l.word) ↔ (first_word (drop l.i l.bytes) ≡ drop l.i l.word);
  spaces : has_space (drop l.i l.word) ≡ false;
}
