use Rattle.std.proofs.Common.{◌≡◌, ◌+◌, ◌*◌, ap, ◌∙◌, subst, arith}
use Rattle.report.specs.Drawing.{HasGiven}
use Rattle.report.specs.Drill.{choice, copy_of_3, node_3}
use Rattle.report.proofs.DrawLemmas.{put_more}
use Rattle.report.proofs.drill.put_copies_of_3.Goals as goal

pub loop-i-preserved : goal.loop-i-preserved
loop-i-preserved c = λ number given.
    let l = c.loop-i in
    let copies = c.args.copies in
    let drawn = copies + 2 * l._i in
    let before = l.invariant number given in
    let child = c.choose-child.ensures in
    let other = c.choose-other.ensures in
    let after_child = child.drawn number drawn before.0 in
    let next : drawn + 1 + 1 ≡ copies + 2 * (l._i + 1) = omega arith in (
      subst (λ n. HasGiven number n c.choose-other.new.rng) next (other.drawn number (drawn + 1) after_child),
      put_more (copy_of_3 number copies) l._i c.args.nodes.now l.nodes c.push.new.self c.in_ok-node_3.field-0 before.1
          c.in_ok-push.ensures.ok
          (c.in_ok-node_3.ensures ∙ ap (λ n. node_3 n c.choose-other.result) (child.chosen number drawn before.0)
          ∙ ap (λ n. node_3 (copies + choice number copies drawn) n) (other.chosen number (drawn + 1) after_child)),
    )
