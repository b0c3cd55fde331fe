use Rattle.std.proofs.Common.{map, sym, subst, ap, length}
use Rattle.report.specs.Measuring.{AreDepths}
use Rattle.report.proofs.WalkLemmas.{AreDepths-nil, known_here, next_depths}
use Rattle.report.proofs.depth.depths_of.Goals as goal

pub loop-node-init : goal.loop-node-init
loop-node-init g c =
    let nodes = map g.N.Walked.any c.args.nodes.now in
    let none = c.new-depths.ensures.items in
    (ap length none, subst (AreDepths nodes) (sym none) (AreDepths-nil nodes))

pub depth-depth-requires : goal.depth-depth-requires
depth-depth-requires g c =
    let l = c.loop-node in
    known_here g.N.Walked.any c.args.nodes.now l.depths.items c.as_slice.result.now l.node-index c.node-item.result c.loop-node-test.true
    c.node-item.is c.requires.leads l.invariant c.as_slice.ensures.value

pub loop-node-preserved : goal.loop-node-preserved
loop-node-preserved g c =
    let l = c.loop-node in
    next_depths g.N.Walked.any c.args.nodes.now l.depths.items c.as_slice.result.now l.node-index c.node-item.result c.depth-depth.result
    c.push.new.self.items c.loop-node-test.true c.node-item.is c.requires.leads l.invariant c.as_slice.ensures.value c.depth-depth.ensures
    c.in_ok-push.ensures.items
