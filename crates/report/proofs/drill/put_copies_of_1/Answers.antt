use Rattle.std.proofs.Common.{◌≡◌, ap, ◌∙◌, arith}
use Rattle.report.specs.Drill.{choice, copy_of_1, node_1}
use Rattle.report.proofs.DrawLemmas.{put_more}
use Rattle.report.proofs.drill.put_copies_of_1.Goals as goal

pub loop-i-preserved : goal.loop-i-preserved
loop-i-preserved c = λ number given.
    let l = c.loop-i in
    let before = l.invariant number given in
    let child : c.choose-child.result ≡ choice number c.args.copies l._i = omega (arith, c.choose-child.ensures.chosen number l._i before.0) in (
      c.choose-child.ensures.drawn number l._i before.0,
      put_more (copy_of_1 number c.args.copies) l._i c.args.nodes.now l.nodes c.push.new.self c.in_ok-node_1.field-0 before.1
          c.in_ok-push.ensures.ok (c.in_ok-node_1.ensures ∙ ap node_1 child),
    )
