use Rattle.std.proofs.Common.{◌≡◌, ℕ, ◌<◌, List, [], ◌∷◌, ◌++◌, All, refl, sym, ◌∙◌, ◌⊎◌, ⊎_elim, inl, inr, subst, arith}
use Rattle.std.proofs.lemmas.Bool.{cases_lt}
use Rattle.std.proofs.lemmas.List.Elements.{All-nil, All-cons, All-head, All-tail}
use Rattle.items.specs.Multiset.{count, Same, put_ascending, IsSize}
use Rattle.items.proofs.MultisetLemmas.{ascending_form, ascending_forms_agree, put_front, put_later, count_other, count-append}

pub Same-refl : (xs : List ℕ) → Same xs xs
Same-refl xs x = refl

pub Same-sym : (xs ys : List ℕ) → Same xs ys → Same ys xs
Same-sym xs ys s x = sym (s x)

pub Same-trans : (xs ys zs : List ℕ) → Same xs ys → Same ys zs → Same xs zs
Same-trans xs ys zs s t x = s x ∙ t x

pub Same-cons : (x : ℕ) (xs ys : List ℕ) → Same xs ys → Same (x ∷ xs) (x ∷ ys)
Same-cons x xs ys s y = omega (arith, s y)

pub Same-append : (xs ys us vs : List ℕ) → Same xs ys → Same us vs → Same (xs ++ us) (ys ++ vs)
Same-append xs ys us vs s t x = omega (arith, count-append x xs us, count-append x ys vs, s x, t x)

-- one more number at the end of both
pub Same-push : (xs ys : List ℕ) (x : ℕ) → Same xs ys → Same (xs ++ x ∷ []) (ys ++ x ∷ [])
Same-push xs ys x s = Same-append xs ys (x ∷ []) (x ∷ []) s (Same-refl (x ∷ []))

pub Same-append_comm : (xs ys : List ℕ) → Same (xs ++ ys) (ys ++ xs)
Same-append_comm xs ys x = omega (arith, count-append x xs ys, count-append x ys xs)

-- a number that is no size does not stand in a list of sizes
pub count_no_size : (most x : ℕ) (xs : List ℕ) → All (IsSize most) xs → (x < 1) ⊎ (most < x) → count x xs ≡ 0
count_no_size most x [] a h = refl
count_no_size most x (y ∷ xs) a h =
    let size = All-head (IsSize most) y xs a in
    count_other x y (count x xs) (λ e. ⊎_elim (λ l. omega (arith, size.low, e, l)) (λ l. omega (arith, size.high, e, l)) h)
    ∙ count_no_size most x xs (All-tail (IsSize most) y xs a) h

-- lists that agree at each size, and at nothing else hold anything, are the same
pub Same-from_sizes : (most : ℕ) (xs ys : List ℕ) → All (IsSize most) xs → All (IsSize most) ys → ((x : ℕ) → IsSize most x → count x xs ≡ count x ys) → Same xs ys
Same-from_sizes most xs ys a b h x =
    ⊎_elim (λ l. count_no_size most x xs a (inl l) ∙ sym (count_no_size most x ys b (inl l)))
    (λ l. ⊎_elim (λ m. count_no_size most x xs a (inr m) ∙ sym (count_no_size most x ys b (inr m))) (λ m. h x (record { low = l; high = m })) (cases_lt most x)) (cases_lt x 1)

module _ (P : ℕ → Type 0) where
  pub All-put_ascending : (x : ℕ) (xs : List ℕ) → P x → All P xs → All P (put_ascending x xs)
  All-put_ascending x [] p a = All-cons P x [] p a
  All-put_ascending x (y ∷ ys) p a =
      ⊎_elim (λ l. subst (All P) (sym (put_later x y ys l)) (All-cons P y (put_ascending x ys) (All-head P y ys a) (All-put_ascending x ys p (All-tail P y ys a))))
      (λ l. subst (All P) (sym (put_front x y ys l)) (All-cons P x (y ∷ ys) p a)) (cases_lt y x)

  pub All-from_put_ascending : (x : ℕ) (xs : List ℕ) → All P (put_ascending x xs) → P x × All P xs
  All-from_put_ascending x [] a = (All-head P x [] a, All-nil P)
  All-from_put_ascending x (y ∷ ys) a =
      ⊎_elim (λ l. let b = subst (All P) (put_later x y ys l) a in
      let r = All-from_put_ascending x ys (All-tail P y (put_ascending x ys) b) in (r.0, All-cons P y ys (All-head P y (put_ascending x ys) b) r.1))
      (λ l. let b = subst (All P) (put_front x y ys l) a in (All-head P x (y ∷ ys) b, All-tail P x (y ∷ ys) b)) (cases_lt y x)

  All-ascending_form : (xs : List ℕ) → All P xs → All P (ascending_form xs)
  unfolding ascending_form
  All-ascending_form [] a = a
  All-ascending_form (x ∷ xs) a = All-put_ascending x (ascending_form xs) (All-head P x xs a) (All-ascending_form xs (All-tail P x xs a))

  All-from_ascending_form : (xs : List ℕ) → All P (ascending_form xs) → All P xs
  unfolding ascending_form
  All-from_ascending_form [] a = a
  All-from_ascending_form (x ∷ xs) a =
      let r = All-from_put_ascending x (ascending_form xs) a in All-cons P x xs r.0 (All-from_ascending_form xs r.1)

  -- what holds of each number of a list holds of each number of a list that is the same
  pub All-Same : (xs ys : List ℕ) → Same xs ys → All P xs → All P ys
  All-Same xs ys s a = All-from_ascending_form ys (subst (All P) (ascending_forms_agree xs ys s) (All-ascending_form xs a))
