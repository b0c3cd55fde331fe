use Rattle.std.proofs.Common.{sym, subst}
use Rattle.checker.specs.FirstFault.{IsCountLine}
use Rattle.checker.specs.Progress.{NoRule, RefusesNext}
use Rattle.checker.specs.declared.fault.CheckFault.{CheckFault}
use Rattle.checker.proofs.ProgressLemmas.{passed_on, refuses_next, refuses_form}
use Rattle.checker.proofs.head.read_count.Goals as goal

pub returns-in_err-next_text-clause-refused : goal.returns-in_err-next_text-clause-refused
returns-in_err-next_text-clause-refused g c =
    let old = c.args.lines.now in
    let left = g.S.Source.left c.args.source.now in
    let new_left = g.S.Source.left c.next_text.new.source in
    passed_on (λ (fault : CheckFault). RefusesNext c.args.line IsCountLine NoRule fault old left new_left) c.in_err-next_text.field-0.0 c.from_residual.result c.from_residual.ensures.1
    (refuses_next c.args.line IsCountLine NoRule c.in_err-next_text.field-0.0 old left new_left c.in_err-next_text.ensures.refused)

pub returns-in_default-clause-refused : goal.returns-in_default-clause-refused
returns-in_default-clause-refused g c =
    let old = c.args.lines.now in
    let left = g.S.Source.left c.args.source.now in
    let new_left = g.S.Source.left c.next_text.new.source in
    subst (λ (fault : CheckFault). RefusesNext c.args.line IsCountLine NoRule fault old left new_left) (sym c.syntax.ensures)
    (refuses_form c.args.line IsCountLine NoRule c.next_text.new.lines.text old c.next_text.new.lines left new_left c.in_ok-next_text.ensures.ok
    (λ form. c.in_default.ensures.exact form.0 (rw c.text.ensures form.1)))
