use Rattle.std.specs.List.{flat_map}
use Rattle.strategy_text.proofs.TextPieces.{writes_line, stops_first, stops_others}
use Rattle.strategy_text.proofs.writing.write_line.Goals as goal

pub returns-in_err-put : goal.returns-in_err-put
returns-in_err-put g c =
    stops_first c.from_residual.result _ _ c.args.first.now (flat_map g.T.Spelled.words c.args.others.now) c.from_residual.ensures.0 c.in_err-put.ensures

pub returns-in_err-put_each : goal.returns-in_err-put_each
returns-in_err-put_each g c =
    stops_others c.from_residual-in_err-put_each.result _ _ _ c.args.first.now (flat_map g.T.Spelled.words c.args.others.now) c.from_residual-in_err-put_each.ensures.0
    c.in_ok-put.ensures c.in_err-put_each.ensures

pub returns : goal.returns
returns g c =
    writes_line c.put-2.result _ _ _ _ c.args.first.now (flat_map g.T.Spelled.words c.args.others.now) c.in_ok-put.ensures c.in_ok-put_each.ensures c.put-2.ensures
