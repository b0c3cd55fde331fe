use Rattle.std.proofs.Common.{ap, ◌∙◌}
use Rattle.strategy_text.specs.Reading.{game_at}
use Rattle.strategy_text.proofs.HeadLines.{game_exact}
use Rattle.strategy_text.proofs.head.parse_game.Goals as goal

pub returns : goal.returns
returns c = record { exact = game_exact c.args.line.now c.game.result (c.game.ensures ∙ ap game_at c.new.ensures) }
