use Rattle.std.proofs.Common.{sym, refl, subst}
use Rattle.strategy_text.specs.declared.rule.Rule.TheVariants as rules
use Rattle.checker.specs.FirstFault.{IsGameLine}
use Rattle.checker.specs.Progress.{BreaksGame, RefusesNext}
use Rattle.checker.specs.declared.fault.CheckFault.{CheckFault}
use Rattle.items.specs.Game.{numbers}
use Rattle.checker.proofs.HeadLemmas.{no_game}
use Rattle.checker.proofs.ProgressLemmas.{passed_on, refuses_next, refuses_form, refuses_rule}
use Rattle.checker.proofs.head.read_game.Goals as goal

pub returns-in_err-next_text-clause-refused : goal.returns-in_err-next_text-clause-refused
returns-in_err-next_text-clause-refused g c =
    let old = c.args.lines.now in
    let left = g.S.Source.left c.args.source.now in
    let new_left = g.S.Source.left c.next_text.new.source in
    passed_on (λ (fault : CheckFault). RefusesNext 2 IsGameLine BreaksGame fault old left new_left) c.in_err-next_text.field-0.0 c.from_residual.result c.from_residual.ensures.1
    (refuses_next 2 IsGameLine BreaksGame c.in_err-next_text.field-0.0 old left new_left c.in_err-next_text.ensures.refused)

pub returns-in_default-clause-refused : goal.returns-in_default-clause-refused
returns-in_default-clause-refused g c =
    let old = c.args.lines.now in
    let left = g.S.Source.left c.args.source.now in
    let new_left = g.S.Source.left c.next_text.new.source in
    subst (λ (fault : CheckFault). RefusesNext 2 IsGameLine BreaksGame fault old left new_left) (sym c.syntax.ensures)
    (refuses_form 2 IsGameLine BreaksGame c.next_text.new.lines.text old c.next_text.new.lines left new_left c.in_ok-next_text.ensures.ok
    (λ form. c.in_default.ensures.exact form.0 (rw c.text.ensures form.1)))

pub returns-in-Err-clause-refused : goal.returns-in-Err-clause-refused
returns-in-Err-clause-refused g c =
    let old = c.args.lines.now in
    let left = g.S.Source.left c.args.source.now in
    let new_left = g.S.Source.left c.next_text.new.source in
    let told = numbers c.in-Some.m c.in-Some.g c.in-Some.t in
    subst (λ (fault : CheckFault). RefusesNext 2 IsGameLine BreaksGame fault old left new_left) (sym c.broken.ensures)
    (refuses_rule 2 IsGameLine BreaksGame rules.Game c.next_text.new.lines.text old c.next_text.new.lines left new_left c.in_ok-next_text.ensures.ok
    (refl, (told, rw c.text.ensures at c.in-Some.ensures.exact, λ is. no_game told c.in-Err.field-0 c.in-Err.ensures.exact is)))
