use Rattle.std.proofs.Common.{◌∙◌, sym, subst}
use Rattle.checker.specs.FirstFault.{IsFirstLine}
use Rattle.checker.specs.Progress.{NoRule, RefusesNext}
use Rattle.checker.specs.declared.fault.CheckFault.{CheckFault}
use Rattle.checker.specs.declared.fault.Heading.TheVariants.{Listed}
use Rattle.checker.proofs.ProgressLemmas.{passed_on, refuses_next, refuses_form, both_ways}
use Rattle.checker.proofs.head.read_listed.Goals as goal

pub returns-in_err-next_text-clause-refused : goal.returns-in_err-next_text-clause-refused
returns-in_err-next_text-clause-refused g c =
    let old = c.args.lines.now in
    let left = g.S.Source.left c.args.source.now in
    let new_left = g.S.Source.left c.next_text.new.source in
    passed_on (λ (fault : CheckFault). RefusesNext 1 (IsFirstLine Listed) NoRule fault old left new_left) c.in_err-next_text.field-0.0 c.from_residual.result
    c.from_residual.ensures.1
    (refuses_next 1 (IsFirstLine Listed) NoRule c.in_err-next_text.field-0.0 old left new_left c.in_err-next_text.ensures.refused)

pub returns-then-not-is_listed-clause-refused : goal.returns-then-not-is_listed-clause-refused
returns-then-not-is_listed-clause-refused g c =
    let old = c.args.lines.now in
    let left = g.S.Source.left c.args.source.now in
    let new_left = g.S.Source.left c.next_text.new.source in
    subst (λ (fault : CheckFault). RefusesNext 1 (IsFirstLine Listed) NoRule fault old left new_left) (sym c.syntax.ensures)
    (refuses_form 1 (IsFirstLine Listed) NoRule c.next_text.new.lines.text old c.next_text.new.lines left new_left c.in_ok-next_text.ensures.ok
    (λ form. both_ways c.is_listed.result c.if-not-is_listed.true (c.is_listed.ensures.exact.1 (c.text.ensures ∙ form.2))))
