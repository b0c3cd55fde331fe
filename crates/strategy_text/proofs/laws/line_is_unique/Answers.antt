use Rattle.strategy_text.proofs.NodesSame.{line_tells, no_end}
use Rattle.strategy_text.proofs.laws.line_is_unique.Goals as goal

pub returns : goal.returns
returns c = record { same = line_tells; end = no_end }
