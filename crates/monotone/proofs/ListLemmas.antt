-- Lists in which no element stands twice, and what stands in lists that are joined or mapped.
use Rattle.std.proofs.Common.{◌≡◌, ◌≢◌, ℕ, zero, suc, ◌+◌, ◌-◌, ◌*◌, ◌<◌, ◌≤◌, ◌⊎◌, List, [], ◌∷◌, map, length, get_or, refl, sym, ap, ◌∙◌, subst, ⊎_elim, inl, inr}
use Rattle.std.proofs.Common.{arith, length-append}
use Rattle.std.specs.Prelude.{All, AllPairs, Contains}
use Rattle.std.specs.List.{flat_map, range_with_len}
use Rattle.std.proofs.lemmas.List.FromFn.{get_or-range_with_len, length-range_with_len}
use Rattle.std.proofs.lemmas.List.Elements.{All-head, Contains-append_left, Contains-append_right, Contains-get_or}

module _ {X : Type 0} where
  pub Contains-first : (x : X) (xs : List X) → Contains (x ∷ xs) x
  Contains-first x xs = (0, omega arith, refl)

  pub Contains-later : (y : X) (xs : List X) (x : X) → Contains xs x → Contains (y ∷ xs) x
  Contains-later y xs x (k, l, e) = (suc k, omega (arith, l), e)

  pub Contains-nothing : (x : X) → Contains [] x → ⊥
  Contains-nothing x (k, l, e) = absurd (omega (arith, l))

  -- what stands in a list stands first or later
  pub Contains-split : (y : X) (xs : List X) (x : X) → Contains (y ∷ xs) x → (y ≡ x) ⊎ Contains xs x
  Contains-split y xs x (zero, l, e) = inl e
  Contains-split y xs x (suc k, l, e) = inr (k, omega (arith, l), e)

  -- a list without the element at a place
  abbrev pub without_place : ℕ → List X → List X
  without_place k [] = []
  without_place zero (x ∷ xs) = xs
  without_place (suc k) (x ∷ xs) = x ∷ without_place k xs

  length-without_place : (k : ℕ) (xs : List X) → k < length xs → suc (length (without_place k xs)) ≡ length xs
  length-without_place k [] l = absurd (omega (arith, l))
  length-without_place zero (x ∷ xs) l = refl
  length-without_place (suc k) (x ∷ xs) l = ap suc (length-without_place k xs (omega (arith, l)))

  -- every other element is still there
  still_there : (k : ℕ) (xs : List X) (x y : X) → get_or xs k x ≡ x → k < length xs → (x ≡ y → ⊥) → Contains xs y → Contains (without_place k xs) y
  still_there k [] x y e l apart c = absurd (omega (arith, l))
  still_there zero (z ∷ zs) x y e l apart c =
      ⊎_elim (λ same. absurd (apart (sym e ∙ same))) (λ later. later) (Contains-split z zs y c)
  still_there (suc k) (z ∷ zs) x y e l apart c =
      ⊎_elim (λ same. subst (Contains (z ∷ without_place k zs)) same (Contains-first z (without_place k zs)))
      (λ later. Contains-later z (without_place k zs) y (still_there k zs x y e (omega (arith, l)) apart later)) (Contains-split z zs y c)

  pub AllPairs-tail : (R : X → X → Type 0) (x : X) (xs : List X) → AllPairs R (x ∷ xs) → AllPairs R xs
  AllPairs-tail R x xs h = λ i j d l m. h (suc i) (suc j) d (omega (arith, l)) (omega (arith, m))

  pub AllPairs-first : (R : X → X → Type 0) (x : X) (xs : List X) (y : X) → AllPairs R (x ∷ xs) → Contains xs y → R x y
  AllPairs-first R x xs y h (k, l, e) = subst (R x) e (h 0 (suc k) y (omega arith) (omega (arith, l)))

  pub AllPairs-cons : (R : X → X → Type 0) (x : X) (xs : List X) → All (R x) xs → AllPairs R xs → AllPairs R (x ∷ xs)
  AllPairs-cons R x xs first rest zero zero d l m = absurd (omega (arith, l))
  AllPairs-cons R x xs first rest zero (suc j) d l m = first j d (omega (arith, m))
  AllPairs-cons R x xs first rest (suc i) zero d l m = absurd (omega (arith, l))
  AllPairs-cons R x xs first rest (suc i) (suc j) d l m = rest i j d (omega (arith, l)) (omega (arith, m))

  -- a list of different members of another list is no longer than it
  pub length-le-members : (xs ys : List X) → AllPairs ◌≢◌ xs → All (Contains ys) xs → length xs ≤ length ys
  length-le-members [] ys once members = omega arith
  length-le-members (x ∷ xs) ys once members =
      let here : Contains ys x = All-head (Contains ys) x xs members in
      let others : All (Contains (without_place here.0 ys)) xs = λ k d l. still_there here.0 ys x (get_or xs k d) here.2 here.1
      (AllPairs-first ◌≢◌ x xs (get_or xs k d) once (Contains-get_or xs k d l)) (members (suc k) d (omega (arith, l))) in
      let rest = length-le-members xs (without_place here.0 ys) (AllPairs-tail ◌≢◌ x xs once) others in
      omega (arith, rest, length-without_place here.0 ys here.1)

module _ {X A : Type 0} (f : X → List A) where
  pub Contains-flat_map : (xs : List X) (x : X) (a : A) → Contains xs x → Contains (f x) a → Contains (flat_map f xs) a
  Contains-flat_map [] x a c h = absurd (Contains-nothing x c)
  Contains-flat_map (y ∷ xs) x a c h =
      ⊎_elim (λ same. Contains-append_left (f y) (flat_map f xs) a (subst (λ z. Contains (f z) a) (sym same) h)) (λ later. Contains-append_right (f y)
      (flat_map f xs) a (Contains-flat_map xs x a later h)) (Contains-split y xs x c)

  -- lists of one length joined
  pub length-flat_map-same : (n : ℕ) (xs : List X) → ((x : X) → Contains xs x → length (f x) ≡ n) → length (flat_map f xs) ≡ length xs * n
  length-flat_map-same n [] h = omega arith
  length-flat_map-same n (x ∷ xs) h =
      omega (arith, length-append (f x) (flat_map f xs), h x (Contains-first x xs), length-flat_map-same n xs (λ y c. h y (Contains-later x xs y c)))

module _ {X A : Type 0} (f : X → A) where
  pub Contains-map : (xs : List X) (x : X) → Contains xs x → Contains (map f xs) (f x)
  Contains-map [] x c = absurd (Contains-nothing x c)
  Contains-map (y ∷ xs) x c =
      ⊎_elim (λ same. subst (λ z. Contains (map f (y ∷ xs)) (f z)) same (Contains-first (f y) (map f xs))) (λ later. Contains-later (f y) (map f xs) (f x)
      (Contains-map xs x later)) (Contains-split y xs x c)

  pub from_map : (xs : List X) (a : A) → Contains (map f xs) a → (x : X) × Contains xs x × (f x ≡ a)
  from_map [] a c = absurd (Contains-nothing a c)
  from_map (y ∷ xs) a c =
      ⊎_elim (λ same. (y, Contains-first y xs, same)) (λ later. let r = from_map xs a later in (r.0, Contains-later y xs r.0 r.1, r.2)) (Contains-split (f y) (map f xs) a c)

-- what holds of each number of a range
pub at_range : (P : ℕ → Type 0) (number : ℕ) → All P (range_with_len 0 number) → (n : ℕ) → n < number → P n
at_range P number h n l = subst P (get_or-range_with_len 0 number n 0 l ∙ omega arith) (h n 0 (omega (arith, l, length-range_with_len 0 number)))

pub all_range : (P : ℕ → Type 0) (number : ℕ) → ((n : ℕ) → n < number → P n) → All P (range_with_len 0 number)
all_range P number h k d l =
    let m : k < number = omega (arith, l, length-range_with_len 0 number) in
    subst P (sym (get_or-range_with_len 0 number k d m ∙ omega arith)) (h k m)
