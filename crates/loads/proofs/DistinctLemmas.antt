-- The different numbers of a descending list.
use Rattle.std.proofs.Common.{◌≡◌, ℕ, zero, suc, ◌+◌, ◌<◌, ◌≤◌, eqb, List, [], ◌∷◌, length, get_or, ◌∙◌, subst, arith, inl, inr}
use Rattle.std.specs.Prelude.{Contains}
use Rattle.std.proofs.lemmas.Bool.{eqb-true, eqb-false, cases_Bool, cases_eq}
use Rattle.std.proofs.lemmas.List.Elements.{Contains-get_or}
use Rattle.loads.specs.Descending.{IsDescending, IsStrictlyDescending, distinct}
use Rattle.loads.proofs.DescendingLemmas.{IsDescending-tail, IsDescending-head, Contains-tail, Contains-cons, Contains-here}
use Rattle.loads.proofs.CountLemmas.{greatest_first}

-- a number of the list is one of the different numbers
pub Contains-distinct : (z : ℕ) (xs : List ℕ) → Contains xs z → Contains (distinct xs) z
Contains-distinct z [] h = h
Contains-distinct z (x ∷ []) h = h
Contains-distinct z (x ∷ y ∷ ys) h = elim (cases_Bool (eqb x y)) [
  | inl e ↦ rw e (elim (cases_eq z x) [
    | inl here ↦
        let at_next : z ≡ y = here ∙ eqb-true x y e in
        Contains-distinct z (y ∷ ys) (subst (λ w. Contains (w ∷ ys) z) at_next (Contains-here z ys))
    | inr other ↦ Contains-distinct z (y ∷ ys) (Contains-tail z x (y ∷ ys) other h)
  ])
  | inr e ↦ rw e (elim (cases_eq z x) [
    | inl here ↦ subst (λ w. Contains (w ∷ distinct (y ∷ ys)) z) here (Contains-here z (distinct (y ∷ ys)))
    | inr other ↦ Contains-cons z x (distinct (y ∷ ys)) (Contains-distinct z (y ∷ ys) (Contains-tail z x (y ∷ ys) other h))
  ])
]

-- each of the different numbers is a number of the list
pub Contains-from_distinct : (z : ℕ) (xs : List ℕ) → Contains (distinct xs) z → Contains xs z
Contains-from_distinct z [] h = h
Contains-from_distinct z (x ∷ []) h = h
Contains-from_distinct z (x ∷ y ∷ ys) h = elim (cases_Bool (eqb x y)) [
  | inl e ↦ Contains-cons z x (y ∷ ys) (Contains-from_distinct z (y ∷ ys) (rw e at h))
  | inr e ↦ elim (cases_eq z x) [
    | inl here ↦ subst (λ w. Contains (w ∷ y ∷ ys) z) here (Contains-here z (y ∷ ys))
    | inr other ↦ Contains-cons z x (y ∷ ys) (Contains-from_distinct z (y ∷ ys) (Contains-tail z x (distinct (y ∷ ys)) other (rw e at h)))
  ]
]

pub IsStrictlyDescending-cons : (x : ℕ) (xs : List ℕ) → ((z : ℕ) → Contains xs z → z < x) → IsStrictlyDescending xs → IsStrictlyDescending (x ∷ xs)
IsStrictlyDescending-cons x xs below h zero l = below (get_or xs 0 0) (Contains-get_or xs 0 0 (omega arith))
IsStrictlyDescending-cons x xs below h (suc k) l =
    let e : suc k + 1 ≡ suc (k + 1) = omega arith in
    rw e (h k (omega arith))

pub IsStrictlyDescending-distinct : (xs : List ℕ) → IsDescending xs → IsStrictlyDescending (distinct xs)
IsStrictlyDescending-distinct [] h = λ k l. absurd (omega arith)
IsStrictlyDescending-distinct (x ∷ []) h = λ k l. absurd (omega arith)
IsStrictlyDescending-distinct (x ∷ y ∷ ys) h =
    let t = IsDescending-tail x (y ∷ ys) h in
    elim (cases_Bool (eqb x y)) [
      | inl e ↦ rw e (IsStrictlyDescending-distinct (y ∷ ys) t)
      | inr e ↦ rw e (
          let ne = eqb-false x y e in
          let le = IsDescending-head x y ys h in
          IsStrictlyDescending-cons x (distinct (y ∷ ys))
          (λ z c. let g = greatest_first z y ys t (Contains-from_distinct z (y ∷ ys) c) in omega arith)
          (IsStrictlyDescending-distinct (y ∷ ys) t))
    ]

pub length-distinct-le : (xs : List ℕ) → length (distinct xs) ≤ length xs
length-distinct-le [] = omega arith
length-distinct-le (x ∷ []) = omega arith
length-distinct-le (x ∷ y ∷ ys) = elim (cases_Bool (eqb x y)) [
  | inl e ↦ rw e (omega (arith, length-distinct-le (y ∷ ys)))
  | inr e ↦ rw e (omega (arith, length-distinct-le (y ∷ ys)))
]

-- there is one wherever there is a number
pub length-distinct_above_zero : (x : ℕ) (xs : List ℕ) → 0 < length (distinct (x ∷ xs))
length-distinct_above_zero x xs = let c = Contains-distinct x (x ∷ xs) (Contains-here x xs) in omega (arith, c.1)
