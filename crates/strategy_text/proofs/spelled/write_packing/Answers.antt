use Rattle.std.proofs.Common.{[], ◌∷◌, codes}
use Rattle.strategy_text.specs.Text.{pack_words}
use Rattle.strategy_text.proofs.Spaced.{writes_words, stops_words}
use Rattle.strategy_text.proofs.spelled.write_packing.Goals as goal

pub returns-in_err-word : goal.returns-in_err-word
returns-in_err-word g c = stops_words c.from_residual.result _ _ (codes "pack" ∷ []) (pack_words c.args.pack.now) c.from_residual.ensures.0 c.in_err-word.ensures

pub returns : goal.returns
returns g c = writes_words c.write_bins.result _ _ _ (codes "pack" ∷ []) (pack_words c.args.pack.now) c.in_ok-word.ensures (rw c.bins.ensures.value at c.write_bins.ensures)
