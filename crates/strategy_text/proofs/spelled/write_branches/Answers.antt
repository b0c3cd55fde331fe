use Rattle.std.specs.List.{flat_map}
use Rattle.strategy_text.specs.Text.{packing_words, placement_words}
use Rattle.strategy_text.proofs.Spaced.{writes_words, stops_words}
use Rattle.strategy_text.proofs.spelled.write_branches.Goals as goal

pub returns-in_err-write_optional_packing : goal.returns-in_err-write_optional_packing
returns-in_err-write_optional_packing g c =
    stops_words c.from_residual.result _ _ (packing_words c.args.pack.now) (flat_map placement_words c.args.placements.now) c.from_residual.ensures.0
    c.in_err-write_optional_packing.ensures

pub returns : goal.returns
returns g c =
    writes_words c.put_each.result _ _ _ (packing_words c.args.pack.now) (flat_map placement_words c.args.placements.now) c.in_ok-write_optional_packing.ensures c.put_each.ensures
