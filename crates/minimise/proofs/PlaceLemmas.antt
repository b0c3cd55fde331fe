-- The place of a number in a list of different numbers.
use Rattle.std.proofs.Common.{◌≡◌, ℕ, ◌+◌, ◌<◌, ◌≤◌, not, cond, eqb, List, [], ◌∷◌, length, map, get_or, refl, sym, ap, ◌∙◌, arith, inl, inr}
use Rattle.std.specs.Prelude.{All, Contains}
use Rattle.std.specs.List.{IsDistinct}
use Rattle.std.proofs.lemmas.Bool.{eqb-true, eq-eqb, ne_eqb, cases_eq}
use Rattle.std.proofs.lemmas.Bool.Decides.{Decides-eqb}
use Rattle.std.proofs.lemmas.List.Elements.{All-head, All-tail}
use Rattle.std.proofs.lemmas.List.Sums.{passes_at_first, position_or_len_is}
use Rattle.std.proofs.lemmas.Map.Made.{AllPairs-from_IsDistinct}
use Rattle.std.proofs.lemmas.Map.Steps.{length-le_from_distinct_below}
use Rattle.items.proofs.MemberLemmas.{Contains-nil, Contains-tail}
use Rattle.std.proofs.lemmas.List.Elements.{All-contains}
use Rattle.minimise.specs.Canonical.{place}
use Rattle.minimise.proofs.FirstsLemmas.{Decides-has}

pub place-lt : (x : ℕ) (xs : List ℕ) → Contains xs x → place x xs < length xs
place-lt x [] c = absurd (Contains-nil x c)
place-lt x (y ∷ ys) c = elim (cases_eq x y) [
  | inl e ↦ rw (eq-eqb y x (sym e)) (omega arith)
  | inr n ↦ rw (ne_eqb y x (λ e. n (sym e))) (omega (arith, place-lt x ys (Contains-tail x y ys n c)))
]

-- the number at its place
pub get_or-place : (x : ℕ) (xs : List ℕ) (d : ℕ) → Contains xs x → get_or xs (place x xs) d ≡ x
get_or-place x xs d c = eqb-true (get_or xs (place x xs) d) x (passes_at_first (λ y. eqb y x) xs d (place-lt x xs c))

-- a number that stands at one place alone
pub place-get_or : (xs : List ℕ) (i d : ℕ) → IsDistinct eqb xs → i < length xs → place (get_or xs i d) xs ≡ i
place-get_or xs i d distinct l =
    let pairs = AllPairs-from_IsDistinct Decides-eqb xs distinct in
    position_or_len_is (λ y. eqb y (get_or xs i d)) xs i d (omega arith)
    (λ k before. ne_eqb (get_or xs k d) (get_or xs i d) (pairs k i d before l))
    (λ within. eq-eqb (get_or xs i d) (get_or xs i d) refl)

-- different numbers stand at different places
pub same_from_place : (x y : ℕ) (xs : List ℕ) → Contains xs x → Contains xs y → place x xs ≡ place y xs → x ≡ y
same_from_place x y xs cx cy e = sym (get_or-place x xs 0 cx) ∙ ap (λ i. get_or xs i 0) e ∙ get_or-place y xs 0 cy

-- different numbers below a bound are at most as many
pub length-le_below : (xs : List ℕ) (n : ℕ) → IsDistinct eqb xs → All (λ x. x < n) xs → length xs ≤ n
length-le_below xs n distinct below =
    length-le_from_distinct_below xs n distinct (λ q h. All-contains (λ x. x < n) xs q below ((Decides-has xs q).0 h))

-- a place is kept by a renaming
pub place-map : (f : ℕ → ℕ) (x : ℕ) (xs : List ℕ) → All (λ y. eqb (f y) (f x) ≡ eqb y x) xs → place (f x) (map f xs) ≡ place x xs
place-map f x [] h = refl
place-map f x (y ∷ ys) h = rw (All-head (λ z. eqb (f z) (f x) ≡ eqb z x) y ys h)
    (ap (λ n. cond (not (eqb y x)) (1 + n) 0) (place-map f x ys (All-tail (λ z. eqb (f z) (f x) ≡ eqb z x) y ys h)))
