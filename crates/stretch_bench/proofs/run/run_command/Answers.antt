use Rattle.std.proofs.Common.{refl, inl}
use Rattle.stretch_bench.specs.declared.command.Command.TheVariants.{Session}
use Rattle.stretch_bench.proofs.CommandLemmas.{spells_as}
use Rattle.stretch_bench.proofs.RunLemmas.{answer_by, made_is_due, made_is_read, talk_unread, unread_where}
use Rattle.stretch_bench.proofs.run.run_command.Goals as goal

pub returns-clause-answer : goal.returns-clause-answer
returns-clause-answer g c words spells =
    answer_by _ _ _ _ _ _ _ c.due_of.result c.ended.result
    (made_is_due _ words _ _ c.args.command.now c.due_of.result spells c.due_of.ensures.due)
    c.due_of.ensures.read
    (λ e. record { command = c.args.command.now; spells = spells; cut = c.due_of.ensures.cut e })
    c.ended.ensures.ending

pub returns-then-is_session-clause-answer : goal.returns-then-is_session-clause-answer
returns-then-is_session-clause-answer g c words spells =
    c.talked.ensures.answer _ words (spells_as _ words c.args.command.now Session (c.if-is_session.ensures.0 refl) spells)

pub returns-clause-read_fault : goal.returns-clause-read_fault
returns-clause-read_fault g c f =
    inl (unread_where _ _ c.due_of.result _ _ _ _ c.ended.result (made_is_read _ _ _ c.args.command.now c.due_of.result c.due_of.ensures.due)
    c.ended.ensures.same c.due_of.ensures.cut c.ended.ensures.ending f)

pub returns-then-is_session-clause-read_fault : goal.returns-then-is_session-clause-read_fault
returns-then-is_session-clause-read_fault g c f =
    talk_unread _ _ c.args.command.now _ _ _ _ (c.if-is_session.ensures.0 refl) (c.talked.ensures.read_fault f)
