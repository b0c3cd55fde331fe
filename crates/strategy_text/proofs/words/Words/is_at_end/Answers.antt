use Rattle.std.proofs.Common.{length, ◌==◌, ap, ◌∙◌}
use Rattle.strategy_text.proofs.FirstWord.{left_none_after}
use Rattle.strategy_text.proofs.words.Words.is_at_end.Goals as goal

pub returns : goal.returns
returns c = left_none_after c.self.inside.line.now c.self.inside.at ∙ ap (λ words. length words == 0) c.self.view_is
