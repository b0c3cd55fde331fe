use Rattle.std.proofs.Common.{◌≡◌, ◌∙◌, get_or, length, refl, sym, ap, subst, arith}
use Rattle.std.specs.Prelude.{All}
use Rattle.std.proofs.lemmas.Bool.{false≢true}
use Rattle.std.proofs.lemmas.Option.{get_or_from_slice_get, same_Some, slice_get_read}
use Rattle.minimax.specs.Reached.{LeadsBelow, LeadsToMarked}
use Rattle.minimax.specs.declared.wins.Win.{Win}
use Rattle.minimax.proofs.ReachedLemmas.{MarksBelow-refl, all_below, win_below}
use Rattle.minimax.proofs.reached.look_at.Goals as goal

pub mark_all-requires : goal.mark_all-requires
mark_all-requires c =
    let win = c.index-as_slice-number.result in
    let read = subst (λ xs. win ≡ get_or xs c.args.number win) c.as_slice.ensures.value c.index-as_slice-number.is in
    let here = slice_get_read c.args.wins.now _ c.args.number win refl c.requires.within read in
    let same = c.as_slice-then-index.ensures.value ∙ ap (λ (w : Win). w.placements) (sym c.index-as_slice-number.is) in
    subst (All (λ placement. LeadsBelow (length c.args.marks.now.items) placement.next)) (sym same)
    (all_below c.args.number (length c.args.marks.now.items) win.placements (omega (arith, c.requires.has_mark))
    (win_below c.requires.ready.0 c.args.wins.now c.args.number win c.requires.ready.1 here))

pub returns-then-index : goal.returns-then-index
returns-then-index c =
    let win = c.index-as_slice-number.result in
    let read = subst (λ xs. win ≡ get_or xs c.args.number win) c.as_slice.ensures.value c.index-as_slice-number.is in
    let here = slice_get_read c.args.wins.now _ c.args.number win refl c.requires.within read in
    let same = c.as_slice-then-index.ensures.value ∙ ap (λ (w : Win). w.placements) (sym c.index-as_slice-number.is) in
    let below = win_below c.requires.ready.0 c.args.wins.now c.args.number win c.requires.ready.1 here in
    record {
      below = c.mark_all.ensures.below c.args.number (subst (All (λ placement. LeadsBelow c.args.number placement.next)) (sym same) below);
      follow = λ other e m.
          let is : win ≡ other = same_Some win other (sym here ∙ e) in
          subst (λ (w : Win). All (λ placement. LeadsToMarked c.mark_all.new.marks.items placement.next) w.placements) is
          (subst (All (λ placement. LeadsToMarked c.mark_all.new.marks.items placement.next)) same c.mark_all.ensures.marked);
    }

pub returns-else-index : goal.returns-else-index
returns-else-index c = record {
  below = MarksBelow-refl c.args.number c.args.marks.now.items;
  follow = λ win e m. absurd (false≢true (sym c.if-index.false ∙ c.index.ensures ∙ get_or_from_slice_get c.args.marks.now.items c.args.number _ _ m));
}
