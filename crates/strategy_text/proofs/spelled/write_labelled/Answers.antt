use Rattle.std.proofs.Common.{[], ◌∷◌}
use Rattle.strategy_text.specs.Text.{list_words}
use Rattle.strategy_text.proofs.Spaced.{writes_words, stops_words}
use Rattle.strategy_text.proofs.spelled.write_labelled.Goals as goal

pub returns-in_err-word : goal.returns-in_err-word
returns-in_err-word g c = stops_words c.from_residual.result _ _ (c.args.label.now ∷ []) (list_words c.args.numbers.now) c.from_residual.ensures.0 c.in_err-word.ensures

pub returns : goal.returns
returns g c = writes_words c.write_list.result _ _ _ (c.args.label.now ∷ []) (list_words c.args.numbers.now) c.in_ok-word.ensures c.write_list.ensures
