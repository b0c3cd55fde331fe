use Rattle.std.proofs.Common.{[], ◌∷◌, codes, decimal}
use Rattle.strategy_text.specs.Text.{pack_words}
use Rattle.strategy_text.proofs.Spaced.{writes_words, stops_words}
use Rattle.strategy_text.proofs.spelled.write_burst.Goals as goal

pub returns-in_err-put_each : goal.returns-in_err-put_each
returns-in_err-put_each g c =
    stops_words c.from_residual.result _ _ (codes "burst" ∷ decimal c.args.count ∷ decimal c.args.size ∷ []) (codes "pack" ∷ pack_words c.args.pack.now) c.from_residual.ensures.0
    c.in_err-put_each.ensures

pub returns : goal.returns
returns g c =
    writes_words c.write_packing.result _ _ _ (codes "burst" ∷ decimal c.args.count ∷ decimal c.args.size ∷ []) (codes "pack" ∷ pack_words c.args.pack.now) c.in_ok-put_each.ensures
    c.write_packing.ensures
