use Rattle.checker.proofs.DecideText.{first_fault_or_none, only_legal_listed_texts, only_legal_texts}
use Rattle.checker.proofs.laws.every_text_has_a_first_fault_or_none.Goals as goal

pub returns : goal.returns
returns c = record { decided = first_fault_or_none; legal = only_legal_texts; listed = only_legal_listed_texts }
