use Rattle.strategy_text.proofs.NodesSame.{nodes_are_lines}
use Rattle.strategy_text.proofs.Texts.{lines_are_lines}
use Rattle.strategy_text.proofs.laws.lines_have_no_line_feed.Goals as goal

pub returns : goal.returns
returns c = record { node = nodes_are_lines; strategy = lines_are_lines }
