use Rattle.std.proofs.Common.{ap, length, arith}
use Rattle.strategy_text.specs.Text.{nodes_of}
use Rattle.report.proofs.WalkLemmas.{depth_of_last}
use Rattle.report.proofs.depth.depth_of.Goals as goal

pub returns : goal.returns
returns c =
    let made = c.in_ok-depths.ensures in
    let slice = c.as_slice.ensures in
    depth_of_last (nodes_of c.args.nodes.now) c.in_ok-depths.depths.items c.as_slice.result.now c.len.result c.requires.some made.one_each made.exact slice.value
    (omega (arith, c.len.ensures, slice.len, ap length slice.value, made.one_each))
