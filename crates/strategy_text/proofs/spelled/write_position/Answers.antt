use Rattle.std.proofs.Common.{◌∷◌, codes}
use Rattle.strategy_text.specs.Text.{list_words}
use Rattle.strategy_text.proofs.Spaced.{writes_words, stops_words}
use Rattle.strategy_text.proofs.spelled.write_position.Goals as goal

pub returns-in_err-write_labelled : goal.returns-in_err-write_labelled
returns-in_err-write_labelled g c =
    stops_words c.from_residual.result _ _ (codes "loads" ∷ list_words c.args.loads.now) (codes "items" ∷ list_words c.args.items.now) c.from_residual.ensures.0
    c.in_err-write_labelled.ensures

pub returns : goal.returns
returns g c =
    writes_words c.write_labelled-2.result _ _ _ (codes "loads" ∷ list_words c.args.loads.now) (codes "items" ∷ list_words c.args.items.now) c.in_ok-write_labelled.ensures
    c.write_labelled-2.ensures
