use Rattle.std.proofs.Common.{◌<◌, ◌+◌, ◌++◌, ◌∙◌, drop, length, ap, arith}
use Rattle.packing_witness.specs.Contents.{items_in}
use Rattle.reachable_loads.proofs.ContentsLemmas.{contents-more, contents-past}
use Rattle.reachable_loads.proofs.packing.contents.Goals as goal
use Rattle.reachable_loads.proofs.packing.contents.Goals.{then-bins-i+in_ok-push, else-bins-i}

pub loop-i-preserved : goal.loop-i-preserved
loop-i-preserved c =
    let l : c.loop-i.i < length c.args.bins.now = omega (arith, c.requires, c.loop-i-test.true) in
    elim c.if-bins-i.branch [
      | then-bins-i+in_ok-push w ↦ ap (λ list. list ++ items_in c.args.bin (drop (c.loop-i.i + 1) c.args.items.now) (drop (c.loop-i.i + 1) c.args.bins.now)) (w.list-is
          ∙ w.in_ok-push.ensures.ok) ∙ contents-more c.args.bin c.loop-i.i c.args.items.now c.args.bins.now c.loop-i.list _ c.loop-i-test.true l w.if-bins-i.true c.loop-i.invariant
      | else-bins-i w ↦ ap (λ list. list ++ items_in c.args.bin (drop (c.loop-i.i + 1) c.args.items.now) (drop (c.loop-i.i + 1) c.args.bins.now)) w.list-is
          ∙ contents-past c.args.bin c.loop-i.i c.args.items.now c.args.bins.now c.loop-i.list _ c.loop-i-test.true l w.if-bins-i.false c.loop-i.invariant
    ]
