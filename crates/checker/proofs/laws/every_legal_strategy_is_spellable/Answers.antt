use Rattle.checker.proofs.LegalText.{legal_is_spellable, legal_lines_are_lines}
use Rattle.checker.proofs.laws.every_legal_strategy_is_spellable.Goals as goal

pub returns : goal.returns
returns c = record { spellable = legal_is_spellable; lines = legal_lines_are_lines }
