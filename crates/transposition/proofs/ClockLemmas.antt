-- How many marks are left as the hand clears them.
use Rattle.std.proofs.Common.{◌≡◌, ℕ, zero, suc, ◌+◌, ◌-◌, ◌<◌, ◌≤◌, Bool, true, false, cond, List, [], ◌∷◌, length, get_or, set, eqb, refl, sym, ap, ◌∙◌, subst, arith}
use Rattle.std.proofs.lemmas.Bool.{eqb-false}
use Rattle.std.proofs.lemmas.List.{length-set, get_or_default}
use Rattle.transposition.specs.Clock.{Marks, marks_at, next_place, PassesOver}
use Rattle.transposition.specs.Clock.PassesOver.{nothing, one_more}

-- how many places have a mark
unfoldable pub marks_left : List Bool → ℕ
marks_left [] = 0
marks_left (mark ∷ marks) = cond mark 1 0 + marks_left marks

pub marks_left-cleared : (marks : List Bool) (place : ℕ) (d : Bool) → place < length marks → get_or marks place d ≡ true
    → suc (marks_left (set marks place false)) ≡ marks_left marks
unfolding marks_left
marks_left-cleared [] place d l h = absurd (omega (arith, l))
marks_left-cleared (mark ∷ marks) zero d l h = rw h (omega arith)
marks_left-cleared (mark ∷ marks) (suc place) d l h = omega (arith, marks_left-cleared marks place d (omega (arith, l)) h)

-- the marks and the hand, part of the way round
pub record IsOnTheWay (before : Marks) (marks : List Bool) (hand : ℕ) : Type 0 where
  pub passes : PassesOver before (marks_at marks hand before.room)
  pub number : length marks ≡ length before.marks
  pub within : hand < length marks

next-lt : (number place : ℕ) → place < number → next_place number place < number
next-lt number place l = (elim (eqb (place + 1) number) as (λ b. eqb (place + 1) number ≡ b → cond b 0 (place + 1) < number) [
  | true ↦ λ e. omega (arith, l)
  | false ↦ λ e. let apart = eqb-false (place + 1) number e in omega (arith, l, apart)
]) refl

pub one_more_on : (before : Marks) (marks : List Bool) (hand next : ℕ) → IsOnTheWay before marks hand → get_or marks hand false ≡ true
    → next ≡ next_place (length (set marks hand false)) hand → IsOnTheWay before (set marks hand false) next
one_more_on before marks hand next h is e =
    let same : length (set marks hand false) ≡ length marks = length-set marks hand false in
    let is_next : next ≡ next_place (length marks) hand = e ∙ ap (λ n. next_place n hand) same in
    record {
      passes = subst (λ n. PassesOver before (marks_at (set marks hand false) n before.room)) (sym is_next) (one_more before (marks_at marks hand before.room) h.passes is);
      number = same ∙ h.number;
      within = let l = next-lt (length marks) hand h.within in omega (arith, l, is_next, same);
    }

pub at_the_start : (marks : List Bool) (hand room : ℕ) → hand ≤ length marks - 1 → 0 < length marks → IsOnTheWay (marks_at marks hand room) marks hand
at_the_start marks hand room l some = record { passes = nothing (marks_at marks hand room); number = refl; within = omega (arith, l, some) }

pub read_mark : (marks : List Bool) (hand : ℕ) (r : Bool) → hand < length marks → r ≡ get_or marks hand r → r ≡ true → get_or marks hand false ≡ true
read_mark marks hand r l e h = get_or_default marks hand false r l ∙ sym e ∙ h

pub fewer_left : (marks : List Bool) (hand : ℕ) (r : Bool) → hand < length marks → r ≡ get_or marks hand r → r ≡ true → marks_left (set marks hand false) < marks_left marks
fewer_left marks hand r l e h =
    let one = marks_left-cleared marks hand false l (read_mark marks hand r l e h) in omega (arith, one)
