use Rattle.std.proofs.Common.{◌≤◌, drop}
use Rattle.strategy_text.proofs.FirstWord.{DigitsUpTo}
use Rattle.strategy_text.proofs.words.digits.Given as goal

abbrev pub invariant-loop-i : goal.invariant-loop-i
invariant-loop-i l = record {
  so_far : DigitsUpTo l.high l.value l.i (drop l.i l.bytes) l.bytes;
  small : l.value ≤ l.high;
}
