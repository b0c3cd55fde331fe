use Rattle.checker.proofs.LegalText.{legal_text_tells, no_legal_prefix}
use Rattle.checker.proofs.laws.a_legal_text_tells_its_strategy.Goals as goal

pub returns : goal.returns
returns c = record { same = legal_text_tells; prefix = no_legal_prefix }
