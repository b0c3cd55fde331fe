use Rattle.std.proofs.Common.{sym, ap, ◌∙◌, subst}
use Rattle.loads.specs.Position.{position}
use Rattle.algorithm_graph.specs.Rules.{RepliesIfSaid}
use Rattle.algorithm_graph.specs.Judging.{node_at, sizes_in}
use Rattle.algorithm_graph.proofs.SizesLemmas.{replies_from_sizes, sizes_from_replies}
use Rattle.algorithm_graph.proofs.rules.replies_if_said.Goals as goal

pub returns-in_ok-room-in-Reply : goal.returns-in_ok-room-in-Reply
returns-in_ok-room-in-Reply c =
    let game = c.args.terms.now.game in
    let sizes = c.args.terms.now.sizes in
    let items = c.args.items.now in
    let entries = c.in-Reply.entries in
    let room = c.in_ok-room-in-Reply.room in
    let law = rw c.game.ensures.value at c.in_ok-room-in-Reply.ensures in
    let node = node_at (position c.args.loads.now c.args.items.now) c.args.act.now in (
      λ h. subst (RepliesIfSaid game sizes node) (sym c.in-Reply.is)
          (replies_from_sizes game sizes items entries room law (ap sizes_in (sym c.as_slice.ensures.value) ∙ rw c.sizes.ensures.value at (c.are_sizes_up_to.ensures.0 h))),
      λ r. c.are_sizes_up_to.ensures.1 (rw c.sizes.ensures.value (ap sizes_in c.as_slice.ensures.value
          ∙ sizes_from_replies game sizes items entries room law (subst (RepliesIfSaid game sizes node) c.in-Reply.is r))),
    )
