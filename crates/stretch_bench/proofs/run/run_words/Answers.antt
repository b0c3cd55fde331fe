use Rattle.std.proofs.Common.{refl}
use Rattle.stretch_bench.proofs.CommandLemmas.{none_of, spelled_of}
use Rattle.stretch_bench.proofs.RunLemmas.{answer_by, spelled_unread, unread_where, usage_is_due, usage_is_read}
use Rattle.stretch_bench.proofs.run.run_words.Goals as goal

pub returns-in-Ok-Some-clause-answer : goal.returns-in-Ok-Some-clause-answer
returns-in-Ok-Some-clause-answer g c =
    c.run_command.ensures.answer _ (spelled_of _ _ c.in-Ok-Some.field-0 c.in-Ok-Some.command c.in-Ok-Some.ensures.exact c.in-Ok-Some.field-0-is)

pub returns-in-Ok-Some-clause-no_command : goal.returns-in-Ok-Some-clause-no_command
returns-in-Ok-Some-clause-no_command g c none =
    absurd (none c.in-Ok-Some.command (spelled_of _ _ c.in-Ok-Some.field-0 c.in-Ok-Some.command c.in-Ok-Some.ensures.exact c.in-Ok-Some.field-0-is))

pub returns-in-Ok-None-clause-answer : goal.returns-in-Ok-None-clause-answer
returns-in-Ok-None-clause-answer g c =
    answer_by _ _ _ _ _ _ _ c.due_of_usage.result c.ended.result
    (usage_is_due _ _ _ _ c.due_of_usage.result (none_of _ _ c.in-Ok-None.field-0 c.in-Ok-None.ensures.exact c.in-Ok-None.field-0-is) refl
    c.due_of_usage.ensures.line)
    (λ e. absurd (c.due_of_usage.ensures.read e)) (λ e. absurd (c.due_of_usage.ensures.read e)) c.ended.ensures.ending

pub returns-in-Ok-Some-clause-read_fault : goal.returns-in-Ok-Some-clause-read_fault
returns-in-Ok-Some-clause-read_fault g c f =
    spelled_unread _ _ _ c.in-Ok-Some.command _ _ _ _ (spelled_of _ _ c.in-Ok-Some.field-0 c.in-Ok-Some.command c.in-Ok-Some.ensures.exact c.in-Ok-Some.field-0-is)
    (c.run_command.ensures.read_fault f)

pub returns-in-Ok-None-clause-read_fault : goal.returns-in-Ok-None-clause-read_fault
returns-in-Ok-None-clause-read_fault g c f =
    absurd ((unread_where _ ⊥ c.due_of_usage.result _ _ _ _ c.ended.result (usage_is_read c.due_of_usage.result c.due_of_usage.ensures.line)
    c.ended.ensures.same c.due_of_usage.ensures.read c.ended.ensures.ending f).1)
