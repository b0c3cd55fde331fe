use Rattle.checker.proofs.LegalText.{legal_text_has_no_fault}
use Rattle.checker.proofs.laws.a_legal_text_has_no_fault.Goals as goal

pub returns : goal.returns
returns c = legal_text_has_no_fault
