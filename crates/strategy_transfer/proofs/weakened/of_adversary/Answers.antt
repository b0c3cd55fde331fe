use Rattle.std.proofs.Common.{arith, length, refl}
use Rattle.std.proofs.lemmas.Option.{slice_get_read}
use Rattle.strategy_transfer.proofs.LinkLemmas.{below_numbers, kept_is, made_more, made_whole}
use Rattle.strategy_transfer.proofs.weakened.of_adversary.Goals as goal

pub end_packing-end-requires-clause-shown : goal.end_packing-end-requires-clause-shown
end_packing-end-requires-clause-shown c =
    rw c.as_slice.ensures.value (c.in_ok-packed.ensures.each c.loop-number.number c.loop-number-test.true)

pub kept_node-requires-clause-below : goal.kept_node-requires-clause-below
kept_node-requires-clause-below c =
    let nodes = c.args.nodes.now in
    let node = c.index-nodes-number.result in
    let here = slice_get_read nodes (length nodes) c.loop-number.number node refl c.loop-number-test.true c.index-nodes-number.is in
    rw c.as_slice-in-loop-number.ensures.value
    (below_numbers c.args.t nodes c.loop-number.number node c.in_ok-numbers.numbers.items c.requires.linked here c.in_ok-numbers.ensures)

pub kept_node-requires-clause-few : goal.kept_node-requires-clause-few
kept_node-requires-clause-few c =
    let nodes = c.args.nodes.now in
    let node = c.index-nodes-number.result in
    let here = slice_get_read nodes (length nodes) c.loop-number.number node refl c.loop-number-test.true c.index-nodes-number.is in
    c.requires.linked.ends c.loop-number.number node c.end_packing-end.result.now here c.end_packing-end.ensures

pub loop-number-preserved : goal.loop-number-preserved
loop-number-preserved c =
    let game = c.args.game.now in
    let t = c.args.t in
    let nodes = c.args.nodes.now in
    let l = c.loop-number in
    let node = c.index-nodes-number.result in
    let here = slice_get_read nodes (length nodes) l.number node refl c.loop-number-test.true c.index-nodes-number.is in
    let is = kept_is game t nodes l.number node c.in_ok-numbers.numbers.items c.end_packing-end.result.now c.in_ok-kept.kept c.requires.linked here
    c.in_ok-numbers.ensures c.end_packing-end.ensures (rw c.as_slice-in-loop-number.ensures.value at c.in_ok-kept.ensures) in
    made_more game t nodes l.number l.made c.push_some.new.nodes c.in_ok-kept.kept l.invariant is c.in_ok-push_some.ensures

pub returns : goal.returns
returns c =
    let l = c.loop-number in
    made_whole c.args.game.now c.args.t c.args.nodes.now l.number l.made (omega arith) l.invariant
