use Rattle.std.proofs.Common.{◌≡◌, length, All}
use Rattle.strategy_text.specs.Spelling.{IsSpellableAdversary}
use Rattle.strategy_text.proofs.file_tests.adversary.Given as goal

abbrev pub invariant-loop-line : goal.invariant-loop-line
invariant-loop-line l = record {
  count : length l.nodes ≡ l.line-index;
  each : All (IsSpellableAdversary l.format) l.nodes;
}
