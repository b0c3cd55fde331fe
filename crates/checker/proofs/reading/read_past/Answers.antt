use Rattle.std.proofs.Common.{[], subst, sym}
use Rattle.checker.specs.Progress.{IsPastEnd, RefusesAfter}
use Rattle.checker.specs.declared.fault.CheckFault.{CheckFault}
use Rattle.checker.proofs.ProgressLemmas.{refuses_past, ended, none_met, not_true}
use Rattle.checker.proofs.reading.read_past.Goals as goal

pub returns-else-is_end-clause-refused : goal.returns-else-is_end-clause-refused
returns-else-is_end-clause-refused g c =
    let old = c.args.lines.now in
    let left = g.S.Source.left c.args.source.now in
    let new_left = g.S.Source.left c.next_line.new.source in
    let h = c.in-Ok.ensures in
    subst (λ (fault : CheckFault). RefusesAfter [] (IsPastEnd c.args.line) fault old left new_left) (sym c.syntax.ensures)
    (refuses_past c.args.line c.in-Ok.found _ old c.next_line.new.self left new_left (λ e. not_true (c.if-is_end.ensures.1 e)) h.reads (none_met old.ending c.requires h.shown))

pub returns-then-is_end-clause-ok : goal.returns-then-is_end-clause-ok
returns-then-is_end-clause-ok g c =
    let old = c.args.lines.now in
    let left = g.S.Source.left c.args.source.now in
    let new_left = g.S.Source.left c.next_line.new.source in
    let h = c.in-Ok.ensures in
    ended c.in-Ok.found _ old c.next_line.new.self left new_left (c.is_end.ensures.0 c.if-is_end.true) h.reads (none_met old.ending c.requires h.shown)
    (none_met old.ending c.requires h.answer)
