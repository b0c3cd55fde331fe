use Rattle.strategy_text.proofs.Texts.{text_tells, no_prefix}
use Rattle.strategy_text.proofs.laws.text_is_unique.Goals as goal

pub returns : goal.returns
returns c = record { same = text_tells; prefix = no_prefix }
