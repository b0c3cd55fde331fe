use Rattle.std.proofs.Common.{◌≡◌, length, map}
use Rattle.report.specs.Measuring.{AreDepths}
use Rattle.report.proofs.depth.depths_of.Given as goal

abbrev pub invariant-loop-node : goal.invariant-loop-node
invariant-loop-node g l = (length l.depths.items ≡ l.node-index) × AreDepths (map g.N.Walked.any l.nodes) l.depths.items
