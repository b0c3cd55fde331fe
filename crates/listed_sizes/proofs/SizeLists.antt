-- The sizes of a set, taken one by one.
use Rattle.std.proofs.Common.{◌≡◌, ℕ, zero, suc, ◌+◌, ◌<◌, ◌≤◌, List, [], ◌∷◌, ◌++◌, length, All, Contains, sym, ap, ◌∙◌, subst, refl, arith, append_assoc, ⊎_elim}
use Rattle.std.specs.Prelude.{AllPairs}
use Rattle.std.proofs.lemmas.List.{append-nil}
use Rattle.std.proofs.lemmas.List.Elements.{All-head, All-nil, All-cons, All-push, All-weaker, All-contains, Contains-append_cases, Contains-append_right}
use Rattle.std.proofs.lemmas.List.Kept.{AllPairs-from_increasing}
use Rattle.items.specs.Multiset.{AreSizes, IsLeastAbove, IsSize}

-- each number is below those after it
abbrev pub Rises : List ℕ → Type 0
Rises [] = Unit {0}
Rises (x ∷ xs) = All (λ y. x < y) xs × Rises xs

rises_from_pairs : (xs : List ℕ) → AllPairs (λ x y. x < y) xs → Rises xs
rises_from_pairs [] h = tt
rises_from_pairs (x ∷ xs) h = (
  λ k d within. h zero (suc k) d (omega arith) (omega (arith, within)),
  rises_from_pairs xs (λ i j d low within. h (suc i) (suc j) d (omega (arith, low)) (omega (arith, within))),
)

-- what was taken of a list of sizes, up to a number, and what is left of it
pub record TakenUpTo (last : ℕ) (list sizes : List ℕ) : Type 0 where
  pub rest : List ℕ
  pub split : sizes ≡ list ++ rest
  pub low : All (λ size. size ≤ last) list
  pub high : All (λ size. last < size) rest
  pub rises : Rises rest

pub none_taken : (sizes : List ℕ) → AreSizes 120 sizes → TakenUpTo 0 [] sizes
none_taken sizes h = record {
  rest = sizes;
  split = refl;
  low = All-nil (λ size. size ≤ 0);
  high = All-weaker (IsSize 120) (λ size. 0 < size) (λ x s. omega (arith, s.low)) sizes h.sizes;
  rises = rises_from_pairs sizes (AllPairs-from_increasing sizes h.ascending);
}

-- the least size above the last one is the first of those left
next_first : (last size : ℕ) (list rest sizes : List ℕ) → sizes ≡ list ++ rest → All (λ x. x ≤ last) list → All (λ x. last < x) rest → Rises rest
    → IsLeastAbove sizes last size → (more : List ℕ) × (rest ≡ size ∷ more)
next_first last size list [] sizes split low high rises least =
    let there : Contains list size = subst (λ (xs : List ℕ). Contains xs size) (split ∙ append-nil list) least.one in
    let small : size ≤ last = All-contains (λ x. x ≤ last) list size low there in
    absurd (omega (arith, small, least.above))
next_first last size list (r ∷ rs) sizes split low high rises least =
    let within : Contains (r ∷ rs) r = (zero, omega arith, refl) in
    let here : Contains sizes r = subst (λ (xs : List ℕ). Contains xs r) (sym split) (Contains-append_right list (r ∷ rs) r within) in
    let below : size ≤ r = All-contains (λ x. last < x → size ≤ x) sizes r least.least here (All-head (λ x. last < x) r rs high) in
    let from_first : All (λ x. r ≤ x) (r ∷ rs) = All-cons (λ x. r ≤ x) r rs (omega arith) (All-weaker (λ x. r < x) (λ x. r ≤ x) (λ x l. omega (arith, l)) rs rises.0) in
    let above : r ≤ size = ⊎_elim
    (λ (c : Contains list size). (let small : size ≤ last = All-contains (λ x. x ≤ last) list size low c in absurd (omega (arith, small, least.above))))
    (λ (c : Contains (r ∷ rs) size). All-contains (λ x. r ≤ x) (r ∷ rs) size from_first c)
    (Contains-append_cases list (r ∷ rs) size (subst (λ (xs : List ℕ). Contains xs size) split least.one)) in
    let same : r ≡ size = omega (arith, below, above) in
    (rs, ap (λ (x : ℕ). x ∷ rs) same)

taken_more : (last size : ℕ) (list new rest more sizes : List ℕ) → rest ≡ size ∷ more → sizes ≡ list ++ rest → All (λ x. x ≤ last) list → Rises rest → last < size
    → new ≡ list ++ size ∷ [] → TakenUpTo size new sizes
taken_more last size list new rest more sizes first split low rises above put =
    let rises' : Rises (size ∷ more) = subst Rises first rises in
    subst (λ (xs : List ℕ). TakenUpTo size xs sizes) (sym put) (record {
      rest = more;
      split = split ∙ ap (λ (xs : List ℕ). list ++ xs) first ∙ sym (append_assoc list (size ∷ []) more);
      low = All-push (λ x. x ≤ size) list size (All-weaker (λ x. x ≤ last) (λ x. x ≤ size) (λ x l. omega (arith, l, above)) list low) (omega arith);
      high = rises'.0;
      rises = rises'.1;
    })

pub one_taken : (last size : ℕ) (list new sizes : List ℕ) → IsLeastAbove sizes last size → new ≡ list ++ size ∷ [] → TakenUpTo last list sizes → TakenUpTo size new sizes
one_taken last size list new sizes least put t =
    let next = next_first last size list t.rest sizes t.split t.low t.high t.rises least in
    taken_more last size list new t.rest next.0 sizes next.1 t.split t.low t.rises least.above put

none_left : (last : ℕ) (list rest sizes : List ℕ) → sizes ≡ list ++ rest → All (λ x. last < x) rest → All (λ x. x ≤ last) sizes → list ≡ sizes
none_left last list [] sizes split high all = sym (split ∙ append-nil list)
none_left last list (r ∷ rs) sizes split high all =
    let within : Contains (r ∷ rs) r = (zero, omega arith, refl) in
    let here : Contains sizes r = subst (λ (xs : List ℕ). Contains xs r) (sym split) (Contains-append_right list (r ∷ rs) r within) in
    let small : r ≤ last = All-contains (λ x. x ≤ last) sizes r all here in
    let large : last < r = All-head (λ x. last < x) r rs high in
    absurd (omega (arith, small, large))

pub all_taken : (last : ℕ) (list sizes : List ℕ) → All (λ x. x ≤ last) sizes → TakenUpTo last list sizes → list ≡ sizes
all_taken last list sizes all t = none_left last list t.rest sizes t.split t.high all
