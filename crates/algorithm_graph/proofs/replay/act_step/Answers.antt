use Rattle.algorithm_graph.proofs.StepLemmas.{step_by_reply}
use Rattle.algorithm_graph.proofs.replay.act_step.Goals as goal

pub returns-in-Reply : goal.returns-in-Reply
returns-in-Reply c =
    step_by_reply c.args.game.now c.args.number c.args.actual.now c.args.size c.args.act.now c.in-Reply.entries c.as_slice.result.now c.entry_for-entry.result c.entry_step.result
    c.in-Reply.is c.as_slice.ensures.value c.entry_for-entry.ensures c.entry_step.ensures
