use Rattle.std.proofs.Common.{arith}
use Rattle.strategy_text.specs.Text.{nodes_of}
use Rattle.strategy_text.proofs.TextPieces.{took_node, stops_node, took_nodes}
use Rattle.strategy_text.proofs.writing.write_nodes.Goals as goal

pub returns-in_err-write_node : goal.returns-in_err-write_node
returns-in_err-write_node g c =
    stops_node c.from_residual.result (nodes_of c.args.nodes.now) c.loop-number.number _ _ _ c.from_residual.ensures.0 (omega (arith, c.len-count.ensures.value))
    c.loop-number.invariant c.in_err-write_node.ensures

pub loop-number-preserved : goal.loop-number-preserved
loop-number-preserved g c =
    took_node (nodes_of c.args.nodes.now) c.loop-number.number _ _ _ (omega (arith, c.len-count.ensures.value)) c.loop-number.invariant c.in_ok-write_node.ensures

pub returns : goal.returns
returns g c = took_nodes (nodes_of c.args.nodes.now) c.loop-number.number _ _ (omega (arith, c.len-count.ensures.value)) c.loop-number.invariant
