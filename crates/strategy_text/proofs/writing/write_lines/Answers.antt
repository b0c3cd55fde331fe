use Rattle.strategy_text.proofs.TextPieces.{writes_text, stops_head, stops_nodes}
use Rattle.strategy_text.proofs.writing.write_lines.Goals as goal

pub returns-in_err-write_head : goal.returns-in_err-write_head
returns-in_err-write_head g c =
    stops_head c.from_residual.result _ _ c.args.strategy.now c.from_residual.ensures.0 (rw (c.side.ensures.value, c.len.ensures.value) at c.in_err-write_head.ensures)

pub returns-in_err-write_nodes : goal.returns-in_err-write_nodes
returns-in_err-write_nodes g c =
    stops_nodes c.from_residual-in_err-write_nodes.result _ _ _ c.args.strategy.now c.from_residual-in_err-write_nodes.ensures.0
    (rw (c.side.ensures.value, c.len.ensures.value) at c.in_ok-write_head.ensures) c.in_err-write_nodes.ensures

pub returns : goal.returns
returns g c =
    writes_text c.put.result _ _ _ _ c.args.strategy.now (rw (c.side.ensures.value, c.len.ensures.value) at c.in_ok-write_head.ensures) c.in_ok-write_nodes.ensures c.put.ensures
