use Rattle.std.proofs.Common.{◌≡◌, ◌≤◌, ◌+◌, ◌++◌, ◌∷◌, [], ℕ, drop, length, set, sym, subst, ◌∙◌, arith, inl, inr}
use Rattle.std.proofs.lemmas.Bool.{cases_lt, false≢true}
use Rattle.items.specs.Packable.{Packable}
use Rattle.items.proofs.SameLemmas.{Same-sym}
use Rattle.packing_witness.proofs.PackableLemmas.{Packable-smaller_last, Packable-Same}
use Rattle.reachable_loads.proofs.RoomLemmas.{IsRoom-bound, Same-put_first, others_put_first}
use Rattle.reachable_loads.proofs.rooms.room_by_placing.Goals as goal

pub returns-then-not-branch : goal.returns-then-not-branch
returns-then-not-branch c =
    let list = drop 1 c.args.list.now in
    let next : ℕ = c.loop-size.size + 1 in
    let s = Same-put_first c.loop-size.list list next (omega (arith, c.loop-size.auto.list, c.requires.first)) c.loop-size.invariant.same in
    IsRoom-bound c.args.game.now list c.loop-size.size (omega (arith, c.loop-size-test.true, c.requires.within))
    (λ size p. elim (cases_lt c.loop-size.size size) [
      | inl larger ↦
          let smaller = Packable-smaller_last c.args.game.now list size next (omega arith) (omega (arith, larger)) p in
          let placed = Packable-Same c.args.game.now (list ++ next ∷ []) (set c.loop-size.list 0 next) (Same-sym (set c.loop-size.list 0 next) (list ++ next ∷ []) s) smaller in
          absurd (false≢true (sym c.if-not-branch.true ∙ c.in_ok-fits_by_placing.ensures.1 placed))
      | inr within ↦ omega (arith, within)
    ]) c.loop-size.invariant.may_come

pub loop-size-preserved : goal.loop-size-preserved
loop-size-preserved c =
    let list = drop 1 c.args.list.now in
    let next : ℕ = c.loop-size.size + 1 in
    let l : 1 ≤ length c.loop-size.list = omega (arith, c.loop-size.auto.list, c.requires.first) in
    let s = Same-put_first c.loop-size.list list next l c.loop-size.invariant.same in
    record {
      same = others_put_first c.loop-size.list list next l c.loop-size.invariant.same;
      may_come = λ some. Packable-Same c.args.game.now (set c.loop-size.list 0 next) (list ++ next ∷ []) s (c.in_ok-fits_by_placing.ensures.0 c.if-not-branch.false);
    }

pub returns : goal.returns
returns c =
    let e : c.loop-size.size ≡ c.args.most = omega (arith, c.loop-size-test.false, c.loop-size.auto.size-end c.requires.order) in
    IsRoom-bound c.args.game.now (drop 1 c.args.list.now) c.args.most c.requires.within c.requires.bound
    (λ some. subst (λ size. Packable c.args.game.now (drop 1 c.args.list.now ++ size ∷ [])) e (c.loop-size.invariant.may_come (omega (arith, some, e))))
