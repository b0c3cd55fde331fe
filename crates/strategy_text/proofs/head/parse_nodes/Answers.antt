use Rattle.std.proofs.Common.{ap, ◌∙◌}
use Rattle.strategy_text.specs.Reading.{count_at}
use Rattle.strategy_text.proofs.HeadLines.{count_exact}
use Rattle.strategy_text.proofs.head.parse_nodes.Goals as goal

pub returns : goal.returns
returns c = record { exact = count_exact c.args.line.now c.count.result (c.count.ensures ∙ ap count_at c.new.ensures) }
