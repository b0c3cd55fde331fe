use Rattle.std.proofs.Common.{List, ℕ, sym, refl, subst}
use Rattle.checker.specs.Listed.{SpellsSizes}
use Rattle.checker.specs.FirstFault.{IsSizesLine}
use Rattle.checker.specs.Progress.{BreaksSizes, RefusesNext}
use Rattle.checker.specs.declared.fault.CheckFault.{CheckFault}
use Rattle.checker.proofs.ProgressLemmas.{none_matched, passed_on, refuses_next, refuses_form, refuses_sizes, some_matched}
use Rattle.checker.proofs.head.read_sizes.Goals as goal

pub returns-in_err-next_text-clause-refused : goal.returns-in_err-next_text-clause-refused
returns-in_err-next_text-clause-refused g c =
    let old = c.args.lines.now in
    let left = g.S.Source.left c.args.source.now in
    let new_left = g.S.Source.left c.next_text.new.source in
    passed_on (λ (fault : CheckFault). RefusesNext 3 IsSizesLine (BreaksSizes c.args.game.now) fault old left new_left) c.in_err-next_text.field-0.0
    c.from_residual.result c.from_residual.ensures.1
    (refuses_next 3 IsSizesLine (BreaksSizes c.args.game.now) c.in_err-next_text.field-0.0 old left new_left c.in_err-next_text.ensures.refused)

pub returns-in_default-clause-refused : goal.returns-in_default-clause-refused
returns-in_default-clause-refused g c =
    let old = c.args.lines.now in
    let left = g.S.Source.left c.args.source.now in
    let new_left = g.S.Source.left c.next_text.new.source in
    subst (λ (fault : CheckFault). RefusesNext 3 IsSizesLine (BreaksSizes c.args.game.now) fault old left new_left) (sym c.syntax.ensures)
    (refuses_form 3 IsSizesLine (BreaksSizes c.args.game.now) c.next_text.new.lines.text old c.next_text.new.lines left new_left c.in_ok-next_text.ensures.ok
    (λ form. none_matched c.in_ok-found.found _ _ c.in_default.is c.in_ok-found.ensures.exact form.0 (rw c.text.ensures form.1)))

pub returns-in_default-from_slice-clause-refused : goal.returns-in_default-from_slice-clause-refused
returns-in_default-from_slice-clause-refused g c =
    let old = c.args.lines.now in
    let left = g.S.Source.left c.args.source.now in
    let new_left = g.S.Source.left c.next_text.new.source in
    let game = c.args.game.now in
    let text = c.next_text.new.lines.text in
    let list = c.as_slice.result.now in
    let spells : SpellsSizes c.text.result.now c.in-Some.list = some_matched c.in_ok-found.found c.in-Some.list _ _ c.in-Some.is c.in_ok-found.ensures.exact in
    let told : SpellsSizes text list = subst (SpellsSizes text) (sym c.as_slice.ensures.value) (subst (λ (t : List ℕ). SpellsSizes t c.in-Some.list) c.text.ensures spells) in
    subst (λ (fault : CheckFault). RefusesNext 3 IsSizesLine (BreaksSizes game) fault old left new_left) (sym c.no_sizes.ensures)
    (refuses_sizes 3 IsSizesLine (BreaksSizes game) text old c.next_text.new.lines left new_left c.in_ok-next_text.ensures.ok
    (refl, (list, told, c.in_default-from_slice.ensures.exact)))
