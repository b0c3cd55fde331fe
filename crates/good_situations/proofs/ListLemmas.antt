-- Sums, parts and searches of lists of numbers.
use Rattle.std.proofs.Common.{◌≡◌, ℕ, ◌+◌, ◌-◌, ◌*◌, max, ◌<◌, ◌≤◌, Bool, true, false, List, [], ◌∷◌, ◌++◌, length, get_or, take, drop, map, refl, ap, ◌∙◌, inl, inr, arith}
use Rattle.std.specs.Prelude.{All, find, unwrap_or, insert, ◌⊎◌}
use Rattle.std.specs.List.{sum_by}
use Rattle.std.proofs.lemmas.Bool.{cases_Bool}
use Rattle.std.proofs.lemmas.List.{take-append-le, take_at, drop_at, drop-append-le, length-append, append-nil, length-drop, drop_all}
use Rattle.std.proofs.lemmas.List.Sums.{sum_by-cons, sum_by-le}
use Rattle.std.proofs.lemmas.List.Elements.{All-nil, All-cons, All-head, All-tail, All-from_get_or}
use borrow.Rule.Slice.PartMut.{put_mid}
use Rattle.items.specs.Multiset.{count}
use Rattle.items.proofs.MultisetLemmas.{count_this}

pub sum_by-map : (f g : ℕ → ℕ) (xs : List ℕ) → sum_by f (map g xs) ≡ sum_by (λ x. f (g x)) xs
sum_by-map f g [] = refl
sum_by-map f g (x ∷ xs) = omega (arith, sum_by-cons f (g x) (map g xs), sum_by-cons (λ y. f (g y)) x xs, sum_by-map f g xs)

-- a sum of terms that are no less for the elements of the list
pub sum_by-le-terms : (f g : ℕ → ℕ) (xs : List ℕ) → All (λ x. f x ≤ g x) xs → sum_by f xs ≤ sum_by g xs
sum_by-le-terms f g [] all = omega arith
sum_by-le-terms f g (x ∷ xs) all =
    omega (arith, sum_by-cons f x xs, sum_by-cons g x xs, All-head (λ y. f y ≤ g y) x xs all, sum_by-le-terms f g xs (All-tail (λ y. f y ≤ g y) x xs all))

pub All-from_map : (P : ℕ → Type 0) (f : ℕ → ℕ) (xs : List ℕ) → All P (map f xs) → All (λ x. P (f x)) xs
All-from_map P f [] all = All-nil (λ x. P (f x))
All-from_map P f (x ∷ xs) all =
    All-cons (λ y. P (f y)) x xs (All-head P (f x) (map f xs) all) (All-from_map P f xs (All-tail P (f x) (map f xs) all))

-- the first element that passes, or else a default, has what all of them have
pub unwrap_or-find : (P : ℕ → Type 0) (p : ℕ → Bool) (xs : List ℕ) (d : ℕ) → All P xs → P d → P (unwrap_or (find p xs) d)
unwrap_or-find P p [] d all h = h
unwrap_or-find P p (x ∷ xs) d all h = elim (cases_Bool (p x)) [
  | inl e ↦ rw e (All-head P x xs all)
  | inr e ↦ rw e (unwrap_or-find P p xs d (All-tail P x xs all) h)
]

-- an element that passes was found
pub record IsFound (p : ℕ → Bool) (xs : List ℕ) (x : ℕ) : Type 0 where
  pub passes : p x ≡ true
  pub member : 0 < count x xs

-- none passes
pub record IsDefault (p : ℕ → Bool) (xs : List ℕ) (d x : ℕ) : Type 0 where
  pub is : x ≡ d
  pub fail : All (λ y. p y ≡ false) xs

found_cases : (p : ℕ → Bool) (y : ℕ) (xs : List ℕ) (d x : ℕ) → p y ≡ false → IsFound p xs x ⊎ IsDefault p xs d x → IsFound p (y ∷ xs) x ⊎ IsDefault p (y ∷ xs) d x
found_cases p y xs d x e (inl h) = inl (record { passes = h.passes; member = omega (arith, h.member) })
found_cases p y xs d x e (inr h) = inr (record { is = h.is; fail = All-cons (λ z. p z ≡ false) y xs e h.fail })

pub find_cases : (p : ℕ → Bool) (xs : List ℕ) (d : ℕ) → IsFound p xs (unwrap_or (find p xs) d) ⊎ IsDefault p xs d (unwrap_or (find p xs) d)
find_cases p [] d = inr (record { is = refl; fail = All-nil (λ y. p y ≡ false) })
find_cases p (y ∷ xs) d = elim (cases_Bool (p y)) [
  | inl e ↦ rw e (inl (record { passes = e; member = omega (arith, count_this y y (count y xs) refl) }))
  | inr e ↦ rw e (found_cases p y xs d (unwrap_or (find p xs) d) e (find_cases p xs d))
]

-- the last element is brought to a place by a turn of the part from there on
pub put_mid-turned : (xs : List ℕ) (place n x : ℕ) (part turned : List ℕ) → length xs ≡ n → place ≤ n
    → part ≡ drop place (xs ++ x ∷ []) → turned ≡ drop (length part - 1) part ++ take (length part - 1) part
    → (k : ℕ) → n < place + k → put_mid place k (xs ++ x ∷ []) turned ≡ insert xs place x
put_mid-turned xs place n x part turned len le p t k past =
    let back : List ℕ = drop place xs in
    let within : place ≤ length xs = omega (arith, len) in
    let split : drop place (xs ++ x ∷ []) ≡ back ++ x ∷ [] = drop-append-le place xs (x ∷ []) within in
    let p' : part ≡ back ++ x ∷ [] = p ∙ split in
    let e : length back ≡ length part - 1 = omega (arith, ap length p', length-append back (x ∷ [])) in
    let last : drop (length part - 1) part ≡ x ∷ [] = ap (drop (length part - 1)) p' ∙ drop_at back (x ∷ []) (length part - 1) e in
    let others : take (length part - 1) part ≡ back = ap (take (length part - 1)) p' ∙ take_at back (x ∷ []) (length part - 1) e in
    let w : turned ≡ x ∷ back = t ∙ ap (λ z. z ++ take (length part - 1) part) last ∙ ap (λ z. (x ∷ []) ++ z) others in
    let front : take place (xs ++ x ∷ []) ≡ take place xs = take-append-le place xs (x ∷ []) within in
    let rest : drop k (drop place (xs ++ x ∷ [])) ≡ [] =
    drop_all k (drop place (xs ++ x ∷ [])) (omega (arith, length-drop place (xs ++ x ∷ []), length-append xs (x ∷ []), len)) in
    rw (front, w, rest) (ap (λ z. take place xs ++ x ∷ z) (append-nil back))

-- a total of at most eight raised loads
pub raised_total-le : (floor : ℕ) (loads : List ℕ) → length loads ≤ 8 → floor < 65536 → ((i : ℕ) → get_or loads i 0 < 65536) → sum_by (λ load. max load floor) loads ≤ 8 * 65535
raised_total-le floor loads few low each =
    let all : All (λ load. max load floor ≤ 65535) loads = All-from_get_or (λ load. max load floor ≤ 65535) loads 0 (λ i within. omega (arith, each i)) in
    omega (arith, sum_by-le (λ load. max load floor) 65535 loads all)
