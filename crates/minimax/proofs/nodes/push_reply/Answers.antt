use Rattle.std.proofs.Common.{◌∙◌}
use Rattle.minimax.proofs.NodeLemmas.{MayAct-reply}
use Rattle.minimax.proofs.nodes.push_reply.Goals as goal

pub push_act-requires : goal.push_act-requires
push_act-requires c = MayAct-reply c.args.space.now c.args.replies.now c.args.position.now c.args.entries.items c.in_ok-entries.entries
    c.requires.playable c.requires.format c.requires.room c.requires.replies
    (c.in_ok-entries.ensures.ok ∙ c.as_slice.ensures.value ∙ c.reverse.ensures.items)
