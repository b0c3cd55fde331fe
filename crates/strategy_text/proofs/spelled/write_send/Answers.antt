use Rattle.std.proofs.Common.{[], ◌∷◌, ◌++◌, codes, decimal}
use Rattle.std.specs.List.{flat_map}
use Rattle.strategy_text.specs.Text.{packing_words, placement_words}
use Rattle.strategy_text.proofs.Spaced.{writes_words, stops_words}
use Rattle.strategy_text.proofs.spelled.write_send.Goals as goal

pub returns-in_err-put_each : goal.returns-in_err-put_each
returns-in_err-put_each g c =
    stops_words c.from_residual.result _ _ (codes "send" ∷ decimal c.args.size ∷ []) (packing_words c.args.pack.now ++ flat_map placement_words c.args.placements.now)
    c.from_residual.ensures.0 c.in_err-put_each.ensures

pub returns : goal.returns
returns g c =
    writes_words c.write_branches.result _ _ _ (codes "send" ∷ decimal c.args.size ∷ []) (packing_words c.args.pack.now ++ flat_map placement_words c.args.placements.now)
    c.in_ok-put_each.ensures c.write_branches.ensures
