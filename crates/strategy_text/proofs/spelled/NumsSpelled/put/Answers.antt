use Rattle.std.proofs.Common.{[], ◌∷◌, codes}
use Rattle.strategy_text.specs.Text.{list_words}
use Rattle.strategy_text.proofs.Spaced.{writes_words, stops_words}
use Rattle.strategy_text.proofs.spelled.NumsSpelled.put.Goals as goal

pub returns-in_err-word : goal.returns-in_err-word
returns-in_err-word g c = stops_words c.from_residual.result _ _ (codes "/" ∷ []) (list_words c.args.self.now) c.from_residual.ensures.0 c.in_err-word.ensures

pub returns : goal.returns
returns g c = writes_words c.write_list.result _ _ _ (codes "/" ∷ []) (list_words c.args.self.now) c.in_ok-word.ensures (rw c.as_slice.ensures.value at c.write_list.ensures)
