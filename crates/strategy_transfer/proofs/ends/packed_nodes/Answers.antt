use Rattle.std.proofs.Common.{length, refl}
use Rattle.std.proofs.lemmas.Option.{slice_get_read}
use Rattle.strategy_transfer.proofs.LinkLemmas.{shown_more}
use Rattle.strategy_transfer.proofs.ends.packed_nodes.Goals as goal

pub loop-number-preserved : goal.loop-number-preserved
loop-number-preserved c =
    let nodes = c.args.nodes.now in
    let l = c.loop-number in
    let node = c.index-nodes-number.result in
    let here = slice_get_read nodes (length nodes) l.number node refl c.loop-number-test.true c.index-nodes-number.is in
    shown_more nodes c.requires.linked l.number c.packed_node-at.result l.packed.items c.push.new.self.items node here l.invariant
    (rw c.as_slice.ensures.value at c.packed_node-at.ensures) c.in_ok-push.ensures.items
