use Rattle.std.proofs.Common.{◌∙◌}
use Rattle.minimax.proofs.NodeLemmas.{MayComeNext-act}
use Rattle.minimax.proofs.nodes.push_act.Goals as goal

pub push-requires : goal.push-requires
push-requires c = record {
  next = MayComeNext-act c.args.space.now c.args.replies.now c.args.position.now c.args.act c.in_ok-from_slice.field-0 c.in_ok-list.field-0
      (c.in_ok-from_slice.ensures.ok ∙ c.as_slice.ensures.value) c.in_ok-list.ensures.ok c.requires;
}
