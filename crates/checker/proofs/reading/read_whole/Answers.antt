use Rattle.std.proofs.Common.{◌+◌, [], List, ℕ, ap, subst}
use Rattle.checker.specs.Accepted.{IsFaultUnder}
use Rattle.checker.specs.Progress.{told_by}
use Rattle.checker.specs.declared.fault.CheckFault.{CheckFault}
use Rattle.checker.specs.declared.fault.CheckFault.TheVariants.{Memory}
use Rattle.checker.proofs.ProgressLemmas.{passed_on}
use Rattle.checker.proofs.TextLemmas.{ReadsWhole-from, past_fault_of, no_memory, fault_of_text}
use Rattle.checker.proofs.reading.read_whole.Goals as goal

pub returns-clause-ok : goal.returns-clause-ok
returns-clause-ok g c =
    let text = c.in_ok-head.ensures.ok in (
      text.0,
      ReadsWhole-from c.args.heading (told_by c.in_ok-head.head) text.0 c.in_ok-lines.lines c.read_text.new.lines (g.S.Source.left c.args.source.now)
          (g.S.Source.left c.read_text.new.source) (g.S.Source.left c.read_past.new.source) (ap (λ reader. reader.held) c.in_ok-lines.ensures) text.1
          c.in_ok-read_past.ensures.ok,
      text.2,
    )

pub returns-in_err-head-clause-fault : goal.returns-in_err-head-clause-fault
returns-in_err-head-clause-fault g c =
    let left = g.S.Source.left c.args.source.now in
    let new_left = g.S.Source.left c.read_text.new.source in
    let fault = c.in_err-head.field-0.0 in
    passed_on (λ (f : CheckFault). IsFaultUnder c.args.heading [] f left new_left) fault c.from_residual-in_err-head.result c.from_residual-in_err-head.ensures.1
    (subst (λ (held : List ℕ). IsFaultUnder c.args.heading held fault left new_left) (ap (λ reader. reader.held) c.in_ok-lines.ensures)
    (fault_of_text c.args.heading c.in_ok-lines.lines.held fault left new_left c.in_err-head.ensures.refused))

pub returns-in_err-read_past-clause-fault : goal.returns-in_err-read_past-clause-fault
returns-in_err-read_past-clause-fault g c =
    let left = g.S.Source.left c.args.source.now in
    let new_left = g.S.Source.left c.read_past.new.source in
    let fault = c.in_err-read_past.field-0.0 in
    let text = c.in_ok-head.ensures.ok in
    passed_on (λ (f : CheckFault). IsFaultUnder c.args.heading [] f left new_left) fault c.from_residual-in_err-read_past.result c.from_residual-in_err-read_past.ensures.1
    (past_fault_of c.args.heading (told_by c.in_ok-head.head) text.0 (c.line_of.result + 1) fault c.in_ok-lines.lines c.read_text.new.lines left
    (g.S.Source.left c.read_text.new.source) new_left (ap (λ reader. reader.held) c.in_ok-lines.ensures) (ap (λ (i : ℕ). i + 1) c.line_of.ensures) text.1
    c.in_err-read_past.ensures.refused)

pub returns-in_err-lines-clause-fault : goal.returns-in_err-lines-clause-fault
returns-in_err-lines-clause-fault g c =
    let left = g.S.Source.left c.args.source.now in
    passed_on (λ (f : CheckFault). IsFaultUnder c.args.heading [] f left left) Memory c.from_residual.result c.from_residual.ensures.1 (no_memory c.args.heading left)
