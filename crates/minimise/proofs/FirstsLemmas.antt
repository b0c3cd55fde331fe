-- The numbers of a list at the first of their places: which they are, and what one more list brings.
use Rattle.std.proofs.Common.{take, ◌≡◌, ℕ, Bool, true, false, not, ◌&&◌, ◌||◌, cond, eqb, List, [], ◌∷◌, ◌++◌, map, refl, sym, ap, ◌∙◌, subst, arith}
use Rattle.std.proofs.Common.{inl, inr, ◌⊎◌}
use Rattle.std.specs.Prelude.{All, Contains}
use Rattle.std.specs.List.{filter, list_any, IsDistinct}
use Rattle.std.specs.Bool.{Decides}
use Rattle.std.specs.Cmp.{nat_eq_equiv}
use Rattle.std.proofs.lemmas.List.{append-nil, get_or-map, length-map}
use Rattle.std.proofs.lemmas.Bool.{false_from_ne_true, eqb-true, ne_eqb, cases_eq}
use Rattle.std.proofs.lemmas.Bool.Decides.{Decides-eqb, same_from_decides, nat_tests}
use Rattle.std.proofs.lemmas.List.Elements.{All-head, All-tail, All-take, All-weaker, All-filter, All-from_recursion, All-contains}
use Rattle.std.proofs.lemmas.List.Elements.{All-contains_itself, recursion_from_All, filter-append, filter_agree, filter_passes}
use Rattle.std.proofs.lemmas.Map.Views.{Contains-from_any, list_any-from_Contains}
use Rattle.items.proofs.MemberLemmas.{Contains-cons, Contains-here, Contains-nil, Contains-tail}
use Rattle.minimise.specs.Canonical.{firsts}

-- ---- what a filter keeps

filter_none : {X : Type 0} (p : X → Bool) (xs : List X) → All (λ x. p x ≡ false) xs → filter p xs ≡ []
filter_none p [] h = refl
filter_none p (x ∷ xs) h = rw (All-head (λ y. p y ≡ false) x xs h) (filter_none p xs (All-tail (λ y. p y ≡ false) x xs h))

filter_each : {X : Type 0} (p : X → Bool) (xs : List X) → All (λ x. p x ≡ true) xs → filter p xs ≡ xs
filter_each p [] h = refl
filter_each p (x ∷ xs) h = rw (All-head (λ y. p y ≡ true) x xs h) (ap (λ ys. x ∷ ys) (filter_each p xs (All-tail (λ y. p y ≡ true) x xs h)))

filter_alike : {X : Type 0} (p q : X → Bool) (xs : List X) → All (λ x. p x ≡ q x) xs → filter p xs ≡ filter q xs
filter_alike p q [] h = refl
filter_alike p q (x ∷ xs) h =
    rw (All-head (λ y. p y ≡ q y) x xs h) (ap (λ ys. cond (q x) (x ∷ ys) ys) (filter_alike p q xs (All-tail (λ y. p y ≡ q y) x xs h)))

filter_filter : {X : Type 0} (p q : X → Bool) (xs : List X) → filter p (filter q xs) ≡ filter (λ x. q x && p x) xs
filter_filter p q [] = refl
filter_filter p q (x ∷ xs) =
    let rest = filter (λ y. q y && p y) xs in
    elim (q x) as (λ b. filter p (cond b (x ∷ filter q xs) (filter q xs)) ≡ cond (b && p x) (x ∷ rest) rest) [
      | true ↦ ap (λ ys. cond (p x) (x ∷ ys) ys) (filter_filter p q xs)
      | false ↦ filter_filter p q xs
    ]

filter-map : {X Y : Type 0} (p : Y → Bool) (f : X → Y) (xs : List X) → filter p (map f xs) ≡ map f (filter (λ x. p (f x)) xs)
filter-map p f [] = refl
filter-map p f (x ∷ xs) = elim (p (f x)) as (λ b. cond b (f x ∷ filter p (map f xs)) (filter p (map f xs))
    ≡ map f (cond b (x ∷ filter (λ y. p (f y)) xs) (filter (λ y. p (f y)) xs))) [
      | true ↦ ap (λ ys. f x ∷ ys) (filter-map p f xs)
      | false ↦ filter-map p f xs
    ]

kept_or_dropped : (b : Bool) (x y : ℕ) (ys : List ℕ) → Contains ys x → Contains (cond b (y ∷ ys) ys) x
kept_or_dropped true x y ys c = Contains-cons x y ys c
kept_or_dropped false x y ys c = c

Contains-filter : (p : ℕ → Bool) (x : ℕ) (xs : List ℕ) → Contains xs x → p x ≡ true → Contains (filter p xs) x
Contains-filter p x [] c h = absurd (Contains-nil x c)
Contains-filter p x (y ∷ ys) c h = elim (cases_eq x y) [
  | inl e ↦ rw (subst (λ z. p z ≡ true) e h) (subst (λ z. Contains (z ∷ filter p ys) x) e (Contains-here x (filter p ys)))
  | inr n ↦ kept_or_dropped (p y) x y (filter p ys) (Contains-filter p x ys (Contains-tail x y ys n c) h)
]

Contains-from_filter : (p : ℕ → Bool) (x : ℕ) (xs : List ℕ) → Contains (filter p xs) x → Contains xs x
Contains-from_filter p x xs c = All-contains (Contains xs) (filter p xs) x (All-filter p (Contains xs) xs (All-contains_itself xs)) c

-- ---- whether a number stands in a list

pub Contains-map : {X Y : Type 0} (f : X → Y) (xs : List X) (x : X) → Contains xs x → Contains (map f xs) (f x)
Contains-map f xs x c = (c.0, omega (arith, length-map xs f, c.1), get_or-map f xs c.0 x (f x) c.1 ∙ ap f c.2)

pub Contains-from_take : (n : ℕ) (xs : List ℕ) (x : ℕ) → Contains (take n xs) x → Contains xs x
Contains-from_take n xs x c = All-contains (Contains xs) (take n xs) x (All-take (Contains xs) n xs (All-contains_itself xs)) c

abbrev pub has : List ℕ → ℕ → Bool
has xs x = list_any (eqb x) xs

pub Decides-has : (xs : List ℕ) (x : ℕ) → Decides (has xs x) (Contains xs x)
Decides-has xs x = (Contains-from_any (λ y z e. eqb-true y z e) x xs, list_any-from_Contains nat_eq_equiv x xs)

pub has_alike : (xs ys : List ℕ) (x : ℕ) → (Contains xs x → Contains ys x) → (Contains ys x → Contains xs x) → has xs x ≡ has ys x
has_alike xs ys x to back =
    let one = Decides-has xs x in
    let other = Decides-has ys x in
    same_from_decides (has xs x) (has ys x) one (λ h. back (other.0 h), λ c. other.1 (to c))

pub cases_has : (xs : List ℕ) (x : ℕ) → Contains xs x ⊎ (Contains xs x → ⊥)
cases_has xs x = by (has xs x) (Decides-has xs x)
  where
    by : (b : Bool) → Decides b (Contains xs x) → Contains xs x ⊎ (Contains xs x → ⊥)
    by true d = inl (d.0 refl)
    by false d = inr (λ c. grind (arith, d.1 c))

hasnt : (xs : List ℕ) (x : ℕ) → (Contains xs x → ⊥) → has xs x ≡ false
hasnt xs x n = false_from_ne_true (has xs x) (λ h. n ((Decides-has xs x).0 h))

-- ---- what one more list brings

-- the numbers of a list that do not stand in another
abbrev pub minus : List ℕ → List ℕ → List ℕ
minus xs ys = filter (λ y. not (has xs y)) ys

not_or : (a b : Bool) → (not b && not a) ≡ not (a || b)
not_or true true = refl
not_or true false = refl
not_or false true = refl
not_or false false = refl

minus-cons : (x : ℕ) (xs ys : List ℕ) → filter (λ y. not (eqb y x)) (minus xs ys) ≡ minus (x ∷ xs) ys
minus-cons x xs ys =
    filter_filter (λ y. not (eqb y x)) (λ y. not (has xs y)) ys
    ∙ filter_agree (λ y. not (has xs y) && not (eqb y x)) (λ y. not (has (x ∷ xs) y)) (λ y. not_or (eqb y x) (has xs y)) ys

pub firsts-append : (xs ys : List ℕ) → firsts (xs ++ ys) ≡ firsts xs ++ minus xs (firsts ys)
firsts-append [] ys = sym (filter_each (λ y. not (has [] y)) (firsts ys) (λ k d l. refl))
firsts-append (x ∷ xs) ys =
    let other = λ (y : ℕ). not (eqb y x) in
    ap (λ zs. x ∷ zs) (
    ap (filter other) (firsts-append xs ys)
    ∙ filter-append other (firsts xs) (minus xs (firsts ys))
    ∙ ap (λ zs. filter other (firsts xs) ++ zs) (minus-cons x xs (firsts ys))
    )

-- ---- which numbers they are

pub Contains-firsts : (x : ℕ) (xs : List ℕ) → Contains xs x → Contains (firsts xs) x
Contains-firsts x [] c = c
Contains-firsts x (y ∷ ys) c = elim (cases_eq x y) [
  | inl e ↦ subst (λ z. Contains (z ∷ filter (λ w. not (eqb w y)) (firsts ys)) x) e (Contains-here x (filter (λ w. not (eqb w y)) (firsts ys)))
  | inr n ↦ Contains-cons x y (filter (λ w. not (eqb w y)) (firsts ys))
      (Contains-filter (λ w. not (eqb w y)) x (firsts ys) (Contains-firsts x ys (Contains-tail x y ys n c)) (ap not (ne_eqb x y n)))
]

pub Contains-from_firsts : (x : ℕ) (xs : List ℕ) → Contains (firsts xs) x → Contains xs x
Contains-from_firsts x [] c = c
Contains-from_firsts x (y ∷ ys) c = elim (cases_eq x y) [
  | inl e ↦ subst (λ z. Contains (z ∷ ys) x) e (Contains-here x ys)
  | inr n ↦ Contains-cons x y ys (Contains-from_firsts x ys
      (Contains-from_filter (λ w. not (eqb w y)) x (firsts ys) (Contains-tail x y (filter (λ w. not (eqb w y)) (firsts ys)) n c)))
]

pub All-firsts : (P : ℕ → Type 0) (xs : List ℕ) → All P xs → All P (firsts xs)
All-firsts P xs h =
    All-weaker (Contains (firsts xs)) P (λ x c. All-contains P xs x h (Contains-from_firsts x xs c)) (firsts xs) (All-contains_itself (firsts xs))

-- ---- each stands once

other_than : (x y : ℕ) → not (eqb y x) ≡ true → eqb x y ≡ false
other_than x y h = grind (arith, nat_tests)

other_back : (x y : ℕ) → eqb x y ≡ false → not (eqb y x) ≡ true
other_back x y h = grind (arith, nat_tests)

distinct_or_dropped : (b : Bool) (x : ℕ) (xs : List ℕ) → All (λ y. eqb x y ≡ false) xs → IsDistinct eqb xs → IsDistinct eqb (cond b (x ∷ xs) xs)
unfolding IsDistinct
distinct_or_dropped true x xs h d = (recursion_from_All (λ y. eqb x y ≡ false) xs h, d)
distinct_or_dropped false x xs h d = d

IsDistinct-filter : (p : ℕ → Bool) (xs : List ℕ) → IsDistinct eqb xs → IsDistinct eqb (filter p xs)
unfolding IsDistinct
IsDistinct-filter p [] d = d
IsDistinct-filter p (x ∷ xs) d =
    distinct_or_dropped (p x) x (filter p xs) (All-filter p (λ y. eqb x y ≡ false) xs (All-from_recursion (λ y. eqb x y ≡ false) xs d.0)) (IsDistinct-filter p xs d.1)

pub IsDistinct-firsts : (xs : List ℕ) → IsDistinct eqb (firsts xs)
unfolding IsDistinct
IsDistinct-firsts [] = tt
IsDistinct-firsts (x ∷ xs) =
    let others = filter (λ y. not (eqb y x)) (firsts xs) in (
      recursion_from_All (λ y. eqb x y ≡ false) others
          (All-weaker (λ y. not (eqb y x) ≡ true) (λ y. eqb x y ≡ false) (other_than x) others (filter_passes (λ y. not (eqb y x)) (firsts xs))),
      IsDistinct-filter (λ y. not (eqb y x)) (firsts xs) (IsDistinct-firsts xs),
    )

pub firsts_of_distinct : (xs : List ℕ) → IsDistinct eqb xs → firsts xs ≡ xs
unfolding IsDistinct
firsts_of_distinct [] d = refl
firsts_of_distinct (x ∷ xs) d =
    ap (λ ys. x ∷ ys) (
    ap (filter (λ y. not (eqb y x))) (firsts_of_distinct xs d.1)
    ∙ filter_each (λ y. not (eqb y x)) xs (All-weaker (λ y. eqb x y ≡ false) (λ y. not (eqb y x) ≡ true) (other_back x) xs (All-from_recursion (λ y. eqb x y ≡ false) xs d.0))
    )

-- ---- one list after another

-- numbers that stand there already bring nothing
pub firsts_old : (xs ys : List ℕ) → All (Contains xs) ys → firsts (xs ++ ys) ≡ firsts xs
firsts_old xs ys h =
    let none : (y : ℕ) → Contains xs y → not (has xs y) ≡ false = λ y c. ap not ((Decides-has xs y).1 c) in
    firsts-append xs ys
    ∙ ap (λ zs. firsts xs ++ zs) (filter_none (λ y. not (has xs y)) (firsts ys)
    (All-weaker (Contains xs) (λ y. not (has xs y) ≡ false) none (firsts ys) (All-firsts (Contains xs) ys h)))
    ∙ append-nil (firsts xs)

pub firsts_same : (xs : List ℕ) → IsDistinct eqb xs → firsts (xs ++ []) ≡ xs
firsts_same xs distinct = firsts_old xs [] (λ k d l. absurd (omega arith)) ∙ firsts_of_distinct xs distinct

-- a new number goes to the end
pub firsts_new : (xs : List ℕ) (x : ℕ) → (Contains xs x → ⊥) → firsts (xs ++ x ∷ []) ≡ firsts xs ++ x ∷ []
firsts_new xs x n = firsts-append xs (x ∷ []) ∙ ap (λ zs. firsts xs ++ zs) (rw (hasnt xs x n) refl)

-- what was looked through once need not be again
pub firsts_again : (xs ys : List ℕ) → firsts (firsts xs ++ ys) ≡ firsts (xs ++ ys)
firsts_again xs ys =
    let same : (y : ℕ) → not (has (firsts xs) y) ≡ not (has xs y) = λ y. ap not (has_alike (firsts xs) xs y (Contains-from_firsts y xs) (Contains-firsts y xs)) in
    firsts-append (firsts xs) ys
    ∙ ap (λ zs. zs ++ minus (firsts xs) (firsts ys)) (firsts_of_distinct (firsts xs) (IsDistinct-firsts xs))
    ∙ ap (λ zs. firsts xs ++ zs) (filter_agree (λ y. not (has (firsts xs) y)) (λ y. not (has xs y)) same (firsts ys))
    ∙ sym (firsts-append xs ys)

-- ---- renaming

-- a function that takes different numbers of a list to different numbers
abbrev pub IsInjectiveOn : (ℕ → ℕ) → List ℕ → Type 0
IsInjectiveOn f xs = (a b : ℕ) → Contains xs a → Contains xs b → f a ≡ f b → a ≡ b

pub eqb-injective : (f : ℕ → ℕ) (xs : List ℕ) (a b : ℕ) → IsInjectiveOn f xs → Contains xs a → Contains xs b → eqb (f a) (f b) ≡ eqb a b
eqb-injective f xs a b inj ca cb =
    let images = Decides-eqb (f a) (f b) in
    let numbers = Decides-eqb a b in
    same_from_decides (eqb (f a) (f b)) (eqb a b) images (λ h. ap f (numbers.0 h), λ e. numbers.1 (inj a b ca cb e))

pub firsts-map : (f : ℕ → ℕ) (xs : List ℕ) → IsInjectiveOn f xs → firsts (map f xs) ≡ map f (firsts xs)
firsts-map f [] inj = refl
firsts-map f (x ∷ xs) inj =
    let rest : IsInjectiveOn f xs = λ a b ca cb. inj a b (Contains-cons a x xs ca) (Contains-cons b x xs cb) in
    let alike : (y : ℕ) → Contains xs y → not (eqb (f y) (f x)) ≡ not (eqb y x) = λ y c. ap not (eqb-injective f (x ∷ xs) y x inj (Contains-cons y x xs c) (Contains-here x xs)) in
    ap (λ ys. f x ∷ ys) (
    ap (filter (λ y. not (eqb y (f x)))) (firsts-map f xs rest)
    ∙ filter-map (λ y. not (eqb y (f x))) f (firsts xs)
    ∙ ap (map f) (filter_alike (λ y. not (eqb (f y) (f x))) (λ y. not (eqb y x)) (firsts xs)
    (All-weaker (Contains xs) (λ y. not (eqb (f y) (f x)) ≡ not (eqb y x)) alike (firsts xs) (All-firsts (Contains xs) xs (All-contains_itself xs))))
    )
