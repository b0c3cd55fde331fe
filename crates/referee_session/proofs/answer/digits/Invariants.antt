use Rattle.std.proofs.Common.{◌≡◌, ◌≤◌, drop}
use Rattle.strategy_text.specs.Words.{digits_after}
use Rattle.referee_session.proofs.answer.digits.Given as goal

abbrev pub invariant-loop-b : goal.invariant-loop-b
invariant-loop-b l = record {
  so_far : digits_after 65535 0 l.word ≡ digits_after 65535 l.value (drop l.b-index l.word);
  small : l.value ≤ 65535;
}
