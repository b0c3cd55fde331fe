-- Walks over numbers of which each leads to lower ones alone: their visits, and the order of the first visits.
use Rattle.std.proofs.Common.{◌≡◌, ℕ, zero, suc, ◌+◌, ◌<◌, ◌≤◌, eqb, List, [], ◌∷◌, ◌++◌, length, map, take, get_or, refl, sym, ap, ◌∙◌, subst, arith}
use Rattle.std.proofs.Common.{inl, inr, ⊎_elim}
use Rattle.std.specs.Prelude.{All, Contains}
use Rattle.std.specs.List.{flat_map, IsDistinct}
use Rattle.std.proofs.lemmas.List.{append-nil, append_assoc, take_at, take-append-le, get_or_append_left, get_or_push, map-append, length_push}
use Rattle.std.proofs.lemmas.List.{get_or_default, take_more, flat_map_more}
use Rattle.std.proofs.lemmas.List.Elements.{All-nil, All-cons, All-head, All-tail, All-append, All-push, All-weaker, All-contains}
use Rattle.std.proofs.lemmas.List.Elements.{Contains-append_left, Contains-append_right, Contains-append_cases, Contains-push, Contains-get_or}
use Rattle.std.proofs.lemmas.Bool.{cases_eq, cases_lt}
use Rattle.minimise.specs.Canonical.{firsts, walk}
use Rattle.minimise.specs.Ordering.{IsOrdered}
use Rattle.minimise.proofs.FirstsLemmas.{Contains-firsts, Contains-from_take, Contains-from_firsts, firsts_again, firsts_new, firsts_old}
use Rattle.minimise.proofs.FirstsLemmas.{firsts_of_distinct, cases_has}
use Rattle.items.proofs.MemberLemmas.{Contains-nil, Contains-tail}

flat_map_alike : (f g : ℕ → List ℕ) (xs : List ℕ) → All (λ x. f x ≡ g x) xs → flat_map f xs ≡ flat_map g xs
flat_map_alike f g [] h = refl
flat_map_alike f g (x ∷ xs) h = rw (All-head (λ y. f y ≡ g y) x xs h) (ap (λ ys. g x ++ ys) (flat_map_alike f g xs (All-tail (λ y. f y ≡ g y) x xs h)))

All-flat_map : (P : ℕ → Type 0) (f : ℕ → List ℕ) (xs : List ℕ) → All (λ x. All P (f x)) xs → All P (flat_map f xs)
All-flat_map P f [] h = All-nil P
All-flat_map P f (x ∷ xs) h =
    All-append P (f x) (flat_map f xs) (All-head (λ y. All P (f y)) x xs h) (All-flat_map P f xs (All-tail (λ y. All P (f y)) x xs h))

Contains-flat_map : (f : ℕ → List ℕ) (xs : List ℕ) (x y : ℕ) → Contains xs x → Contains (f x) y → Contains (flat_map f xs) y
Contains-flat_map f [] x y cx cy = absurd (Contains-nil x cx)
Contains-flat_map f (z ∷ zs) x y cx cy = elim (cases_eq x z) [
  | inl e ↦ Contains-append_left (f z) (flat_map f zs) y (subst (λ w. Contains (f w) y) e cy)
  | inr n ↦ Contains-append_right (f z) (flat_map f zs) y (Contains-flat_map f zs x y (Contains-tail x z zs n cx) cy)
]

-- numbers of which each leads to lower ones alone
abbrev pub Falls : (ℕ → List ℕ) → Type 0
Falls next = (number : ℕ) → All (λ child. child < number) (next number)

module _ (next : ℕ → List ℕ) (falls : Falls next) where
  -- a walk that may be deep enough is the same, however deep it may be
  pub walk_enough : (a b number : ℕ) → number < a → number < b → walk next a number ≡ walk next b number
  unfolding walk
  walk_enough zero b number la lb = absurd (omega arith)
  walk_enough (suc a) zero number la lb = absurd (omega arith)
  walk_enough (suc a) (suc b) number la lb =
      ap (λ visits. visits ++ number ∷ []) (flat_map_alike (walk next a) (walk next b) (next number)
      (All-weaker (λ child. child < number) (λ child. walk next a child ≡ walk next b child)
      (λ child below. walk_enough a b child (omega (arith, la)) (omega (arith, lb))) (next number) (falls number)))

  -- all visits of a walk from a number
  abbrev pub visits : ℕ → List ℕ
  visits number = walk next (number + 1) number

  suc_more : (number : ℕ) → walk next (number + 1) number ≡ walk next (suc number) number
  suc_more number = walk_enough (number + 1) (suc number) number (omega arith) (omega arith)

  pub visits_are : (number : ℕ) → visits number ≡ flat_map visits (next number) ++ number ∷ []
  unfolding walk
  visits_are number =
      suc_more number
      ∙ ap (λ before. before ++ number ∷ []) (flat_map_alike (walk next number) visits (next number)
      (All-weaker (λ child. child < number) (λ child. walk next number child ≡ visits child)
      (λ child below. walk_enough number (child + 1) child below (omega arith)) (next number) (falls number)))

  -- no visit is of a greater number
  pub walk-le : (n number : ℕ) → All (λ x. x ≤ number) (walk next n number)
  unfolding walk
  walk-le zero number = All-nil (λ x. x ≤ number)
  walk-le (suc n) number =
      All-push (λ x. x ≤ number) (flat_map (walk next n) (next number)) number
      (All-flat_map (λ x. x ≤ number) (walk next n) (next number)
      (All-weaker (λ child. child < number) (λ child. All (λ x. x ≤ number) (walk next n child))
      (λ child below. All-weaker (λ x. x ≤ child) (λ x. x ≤ number) (λ x l. omega (arith, below, l)) (walk next n child) (walk-le n child))
      (next number) (falls number)))
      (omega arith)

  -- what holds of the number and of all to which it leads holds of all visits
  pub All-walk : (P : ℕ → Type 0) → ((number : ℕ) → P number → All P (next number)) → (n number : ℕ) → P number → All P (walk next n number)
  unfolding walk
  All-walk P leads zero number p = All-nil P
  All-walk P leads (suc n) number p =
      All-push P (flat_map (walk next n) (next number)) number
      (All-flat_map P (walk next n) (next number)
      (All-weaker P (λ child. All P (walk next n child)) (λ child q. All-walk P leads n child q) (next number) (leads number p)))
      p

  -- a walk comes to its number at its end
  pub walk-itself : (n number : ℕ) → number < n → Contains (walk next n number) number
  unfolding walk
  walk-itself zero number l = absurd (omega arith)
  walk-itself (suc n) number l = Contains-push (flat_map (walk next n) (next number)) number

  -- ---- orders in which what a number leads to stands before it

  pub IsOrdered-nil : IsOrdered next []
  IsOrdered-nil k l = absurd (omega arith)

  pub IsOrdered-push : (order : List ℕ) (number : ℕ) → IsOrdered next order → All (Contains order) (next number) → IsOrdered next (order ++ number ∷ [])
  IsOrdered-push order number ordered here k l = elim (cases_lt k (length order)) [
    | inl before ↦ rw (take-append-le k order (number ∷ []) (omega (arith, before)), get_or_append_left order (number ∷ []) 0 k before) (ordered k before)
    | inr after ↦
        let at : k ≡ length order = omega (arith, after, l, length_push order number) in
        let cut : take k (order ++ number ∷ []) ≡ order = take_at order (number ∷ []) k (sym at) in
        let found : get_or (order ++ number ∷ []) k 0 ≡ number = get_or_push order number 0 k (sym at) in
        rw (cut, found) here
  ]

  -- what walks from numbers add to an order leaves it one, where each walk does
  all_walked : (f : ℕ → List ℕ) (numbers seen : List ℕ)
      → All (λ number. (before : List ℕ) → IsOrdered next (firsts before) → IsOrdered next (firsts (before ++ f number))) numbers
      → IsOrdered next (firsts seen) → IsOrdered next (firsts (seen ++ flat_map f numbers))
  all_walked f [] seen each ordered = subst (λ list. IsOrdered next (firsts list)) (sym (append-nil seen)) ordered
  all_walked f (number ∷ numbers) seen each ordered =
      let Keeps = λ (x : ℕ). (before : List ℕ) → IsOrdered next (firsts before) → IsOrdered next (firsts (before ++ f x)) in
      let here = All-head Keeps number numbers each seen ordered in
      subst (λ list. IsOrdered next (firsts list)) (append_assoc seen (f number) (flat_map f numbers))
      (all_walked f numbers (seen ++ f number) (All-tail Keeps number numbers each) here)

  -- what a walk adds to an order leaves it one
  pub walked : (n number : ℕ) (seen : List ℕ) → number < n → IsOrdered next (firsts seen) → IsOrdered next (firsts (seen ++ walk next n number))
  unfolding walk
  walked zero number seen l ordered = absurd (omega arith)
  walked (suc n) number seen l ordered =
      let before = flat_map (walk next n) (next number) in
      let all = seen ++ before in
      let done : IsOrdered next (firsts all) = all_walked (walk next n) (next number) seen
      (All-weaker (λ child. child < number) (λ child. (list : List ℕ) → IsOrdered next (firsts list) → IsOrdered next (firsts (list ++ walk next n child)))
      (λ child below list o. walked n child list (omega (arith, below, l)) o) (next number) (falls number)) ordered in
      let children : All (Contains (firsts all)) (next number) =
      All-weaker (λ child. Contains (next number) child × (child < number)) (Contains (firsts all))
      (λ child h. Contains-firsts child all (Contains-append_right seen before child
      (Contains-flat_map (walk next n) (next number) child child h.0 (walk-itself n child (omega (arith, h.1, l))))))
      (next number) (λ k d within. (Contains-get_or (next number) k d within, falls number k d within)) in
      subst (λ list. IsOrdered next (firsts list)) (append_assoc seen before (number ∷ [])) (elim (cases_has all number) [
        | inl old ↦ subst (IsOrdered next) (sym (firsts_old all (number ∷ []) (All-cons (Contains all) number [] old (All-nil (Contains all))))) done
        | inr new ↦ subst (IsOrdered next) (sym (firsts_new all number new)) (IsOrdered-push (firsts all) number done children)
      ])

  -- and so do walks from numbers
  pub all_visited : (order numbers : List ℕ) → IsDistinct eqb order → IsOrdered next order → IsOrdered next (firsts (order ++ flat_map visits numbers))
  all_visited order numbers distinct ordered =
      all_walked visits numbers order (λ k d l before o. walked (get_or numbers k d + 1) (get_or numbers k d) before (omega arith) o)
      (subst (IsOrdered next) (sym (firsts_of_distinct order distinct)) ordered)

  -- an order has all visits of a walk from each of its numbers
  closed_below : (n : ℕ) (order : List ℕ) (number : ℕ) → IsOrdered next order → number < n → Contains order number → All (Contains order) (visits number)
  closed_below zero order number ordered l c = absurd (omega arith)
  closed_below (suc n) order number ordered l c =
      let at : number ≡ get_or order c.0 0 = sym c.2 ∙ get_or_default order c.0 number 0 c.1 in
      let children : All (Contains (take c.0 order)) (next number) = rw at (ordered c.0 c.1) in
      subst (All (Contains order)) (sym (visits_are number))
      (All-push (Contains order) (flat_map visits (next number)) number
      (All-flat_map (Contains order) visits (next number)
      (λ k d within. closed_below n order (get_or (next number) k d) ordered (omega (arith, l, falls number k d within))
      (Contains-from_take c.0 order (get_or (next number) k d) (children k d within))))
      c)

  pub closed : (order : List ℕ) (number : ℕ) → IsOrdered next order → Contains order number → All (Contains order) (visits number)
  closed order number ordered c = closed_below (suc number) order number ordered (omega arith) c

  -- ---- one visit after another

  -- a number that stands in an order already brings nothing
  pub visit_old : (order : List ℕ) (number : ℕ) → IsDistinct eqb order → IsOrdered next order → Contains order number → firsts (order ++ visits number) ≡ order
  visit_old order number distinct ordered c = firsts_old order (visits number) (closed order number ordered c) ∙ firsts_of_distinct order distinct

  -- the visits below a new number do not come to it
  pub visit_below : (order : List ℕ) (number : ℕ) → (Contains order number → ⊥) → Contains (firsts (order ++ flat_map visits (next number))) number → ⊥
  visit_below order number new c =
      let below : All (λ x. x < number) (flat_map visits (next number)) =
      All-flat_map (λ x. x < number) visits (next number)
      (All-weaker (λ child. child < number) (λ child. All (λ x. x < number) (visits child))
      (λ child l. All-weaker (λ x. x ≤ child) (λ x. x < number) (λ x h. omega (arith, h, l)) (visits child) (walk-le (child + 1) child))
      (next number) (falls number)) in
      ⊎_elim new (λ h. lt_irrefl number (All-contains (λ x. x < number) (flat_map visits (next number)) number below h))
      (Contains-append_cases order (flat_map visits (next number)) number (Contains-from_firsts number (order ++ flat_map visits (next number)) c))
    where
      lt_irrefl : (n : ℕ) → n < n → ⊥
      lt_irrefl n l = omega arith

  -- a new number comes after the visits below it
  pub visit_new : (order : List ℕ) (number : ℕ) → (Contains order number → ⊥)
      → firsts (order ++ visits number) ≡ firsts (order ++ flat_map visits (next number)) ++ number ∷ []
  visit_new order number new =
      let before = flat_map visits (next number) in
      ap (λ list. firsts (order ++ list)) (visits_are number)
      ∙ ap firsts (sym (append_assoc order before (number ∷ [])))
      ∙ firsts_new (order ++ before) number (λ c. visit_below order number new (Contains-firsts number (order ++ before) c))

  -- one child more
  pub visit_more : (order before : List ℕ) (k : ℕ) (children : List ℕ) → k < length children → before ≡ firsts (order ++ flat_map visits (take k children))
      → firsts (before ++ visits (get_or children k 0)) ≡ firsts (order ++ flat_map visits (take (k + 1) children))
  visit_more order before k children l e =
      ap (λ list. firsts (list ++ visits (get_or children k 0))) e
      ∙ firsts_again (order ++ flat_map visits (take k children)) (visits (get_or children k 0))
      ∙ ap firsts (flat_map_more visits order (take k children) (get_or children k 0))
      ∙ ap (λ list. firsts (order ++ flat_map visits list)) (sym (take_more children k 0 l))

  -- the order of all that a walk comes to ends with its number
  pub walk_ends : (number : ℕ) → firsts (visits number) ≡ firsts (flat_map visits (next number)) ++ number ∷ []
  walk_ends number = visit_new [] number (λ c. Contains-nil number c)

-- ---- renaming

-- the visits of renamed numbers, where each one's visits are renamed
flat_map-renamed : (f : ℕ → ℕ) (one other : ℕ → List ℕ) (xs : List ℕ) → All (λ x. other (f x) ≡ map f (one x)) xs
    → flat_map other (map f xs) ≡ map f (flat_map one xs)
flat_map-renamed f one other [] h = refl
flat_map-renamed f one other (x ∷ xs) h =
    let Renames = λ (y : ℕ). other (f y) ≡ map f (one y) in
    ap (λ list. list ++ flat_map other (map f xs)) (All-head Renames x xs h)
    ∙ ap (λ list. map f (one x) ++ list) (flat_map-renamed f one other xs (All-tail Renames x xs h))
    ∙ sym (map-append f (one x) (flat_map one xs))

-- a walk over renamed numbers makes renamed visits
pub walk-map : (f : ℕ → ℕ) (next other : ℕ → List ℕ) (P : ℕ → Type 0) → ((number : ℕ) → P number → All P (next number))
    → ((number : ℕ) → P number → other (f number) ≡ map f (next number)) → (n number : ℕ) → P number
    → walk other n (f number) ≡ map f (walk next n number)
unfolding walk
walk-map f next other P stays agree zero number p = refl
walk-map f next other P stays agree (suc n) number p =
    ap (λ list. flat_map (walk other n) list ++ f number ∷ []) (agree number p)
    ∙ ap (λ list. list ++ f number ∷ []) (flat_map-renamed f (walk next n) (walk other n) (next number)
    (All-weaker P (λ x. walk other n (f x) ≡ map f (walk next n x)) (λ x q. walk-map f next other P stays agree n x q) (next number) (stays number p)))
    ∙ sym (map-append f (flat_map (walk next n) (next number)) (number ∷ []))
