use Rattle.std.proofs.Common.{ap, Err, inl, ◌∙◌}
use Rattle.port_io.specs.Lines.{ReaderState}
use Rattle.stretch_bench.proofs.TalkLemmas.{fault_answers, talk_answers, unread_front}
use Rattle.stretch_bench.proofs.talking.talked.Goals as goal

pub returns-in-Ok-load_from-clause-answer : goal.returns-in-Ok-load_from-clause-answer
returns-in-Ok-load_from-clause-answer g c players words spells =
    talk_answers _ _ _ c.in-Ok-load_from.strategy c.in-Ok.lines.held c.load_from.new.lines.held (ap (λ (r : ReaderState). r.held) c.in-Ok.ensures)
    c.in-Ok-load_from.ensures.loaded _ _ _ _ _ _ _ players words spells c.refereed.result c.load_from.ensures.count c.refereed.ensures.talk

pub returns-clause-answer : goal.returns-clause-answer
returns-clause-answer g c players words spells =
    fault_answers players words _ _ c.in-Ok.lines.held _ _ _ _ _ _ c.in-Err.fault c.due_of_fault.result c.ended.result spells
    (ap (λ (r : ReaderState). r.held) c.in-Ok.ensures) c.in-Err.ensures.fault (λ e. c.load_from.ensures.read (c.in-Err.is ∙ ap Err e))
    c.due_of_fault.ensures.line c.due_of_fault.ensures.front c.due_of_fault.ensures.read c.due_of_fault.ensures.memory c.ended.ensures.ending

pub returns-clause-read_fault : goal.returns-clause-read_fault
returns-clause-read_fault g c f =
    inl (unread_front _ _ _ c.in-Ok.lines.held c.in-Err.fault c.due_of_fault.result _ _ _ _ c.ended.result (ap (λ (r : ReaderState). r.held) c.in-Ok.ensures)
    c.in-Err.ensures.fault c.due_of_fault.ensures.status c.ended.ensures.same c.due_of_fault.ensures.read c.ended.ensures.ending f)
