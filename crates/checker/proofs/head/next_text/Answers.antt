use Rattle.std.proofs.Common.{subst, sym}
use Rattle.checker.specs.Progress.{AnyLine, NoRule, RefusesNext}
use Rattle.checker.specs.declared.fault.CheckFault.{CheckFault}
use Rattle.checker.proofs.ProgressLemmas.{refuses_ending, none_met, not_true}
use Rattle.checker.proofs.head.next_text.Goals as goal

pub returns-else-is_text-clause-refused : goal.returns-else-is_text-clause-refused
returns-else-is_text-clause-refused g c =
    let old = c.args.lines.now in
    let left = g.S.Source.left c.args.source.now in
    let new_left = g.S.Source.left c.next_line.new.source in
    let h = c.in-Ok.ensures in
    subst (λ (fault : CheckFault). RefusesNext c.args.line AnyLine NoRule fault old left new_left) (sym c.syntax.ensures)
    (refuses_ending c.args.line c.in-Ok.found _ old c.next_line.new.self left new_left
    (λ e. not_true (c.if-is_text.ensures.1 e)) h.reads (none_met old.ending c.requires h.shown) (none_met old.ending c.requires h.answer))
