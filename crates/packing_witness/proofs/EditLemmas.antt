-- What is left of lists when a number is taken out.
use Rattle.std.proofs.Common.{◌≡◌, ℕ, zero, suc, ◌+◌, ◌<◌, Some, None, List, [], ◌∷◌, ◌++◌, length, take, drop, get_or, refl, sym, ap, ◌∙◌, arith, ◌-◌, add-one, append_assoc}
use Rattle.std.proofs.lemmas.Bool.{eq-eqb, ne_eqb}
use Rattle.std.proofs.lemmas.List.{take_rest}
use Rattle.packing_witness.specs.Edits.{first_out, without}

-- the first place that has the number
pub first_out_at : (item : ℕ) (xs : List ℕ) (i : ℕ) → i < length xs → ((k : ℕ) → k < i → get_or xs k 0 ≡ item → ⊥) → get_or xs i 0 ≡ item
    → first_out item xs ≡ Some (take i xs ++ drop (suc i) xs)
first_out_at item [] i l before here = absurd (omega (arith, l))
first_out_at item (x ∷ xs) zero l before here = let t = eq-eqb item x (sym here) in rw t refl
first_out_at item (x ∷ xs) (suc i) l before here =
    let t = ne_eqb item x (λ e. before 0 (omega arith) (sym e)) in
    let r = first_out_at item xs i (omega (arith, l)) (λ k h. before (suc k) (omega (arith, h))) here in
    rw (t, r) refl

pub first_out_nowhere : (item : ℕ) (xs : List ℕ) → ((k : ℕ) → k < length xs → get_or xs k 0 ≡ item → ⊥) → first_out item xs ≡ None
first_out_nowhere item [] before = refl
first_out_nowhere item (x ∷ xs) before =
    let t = ne_eqb item x (λ e. before 0 (omega arith) (sym e)) in
    let r = first_out_nowhere item xs (λ k h. before (suc k) (omega (arith, h))) in
    rw (t, r) refl

-- the first bin that has the number
pub without_at : (item : ℕ) (bins : List (List ℕ)) (i : ℕ) (rest : List ℕ) → i < length bins → ((k : ℕ) → k < i → first_out item (get_or bins k []) ≡ None)
    → first_out item (get_or bins i []) ≡ Some rest → without item bins ≡ Some (take i bins ++ rest ∷ drop (suc i) bins)
without_at item [] i rest l before here = absurd (omega (arith, l))
without_at item (bin ∷ bins) zero rest l before here = rw here refl
without_at item (bin ∷ bins) (suc i) rest l before here =
    let t = before 0 (omega arith) in
    let r = without_at item bins i rest (omega (arith, l)) (λ k h. before (suc k) (omega (arith, h))) here in
    rw (t, r) refl

pub without_nowhere : (item : ℕ) (bins : List (List ℕ)) → ((k : ℕ) → k < length bins → first_out item (get_or bins k []) ≡ None) → without item bins ≡ None
without_nowhere item [] before = refl
without_nowhere item (bin ∷ bins) before =
    let t = before 0 (omega arith) in
    let r = without_nowhere item bins (λ k h. before (suc k) (omega (arith, h))) in
    rw (t, r) refl

-- the lists that the code makes
pub first_out_made : (item i : ℕ) (bin sizes front made : List ℕ) → sizes ≡ bin → i < length sizes → ((k : ℕ) → k < i → get_or sizes k 0 ≡ item → ⊥)
    → get_or sizes i 0 ≡ item → front ≡ take i sizes → made ≡ front ++ take (length sizes - (i + 1)) (drop (i + 1) sizes) → Some made ≡ first_out item bin
first_out_made item i bin sizes front made same l before here e f =
    let r = take_rest sizes (i + 1) in
    let t = first_out_at item sizes i l before here in
    rw (f, e, ← same, t) (ap (λ rest. Some (take i sizes ++ rest)) (r ∙ ap (λ n. drop n sizes) (add-one i)))

pub without_made : (item i : ℕ) (whole bins front with_bin made : List (List ℕ)) (rest : List ℕ) → bins ≡ whole → i < length bins
    → ((k : ℕ) → k < i → first_out item (get_or bins k []) ≡ None) → first_out item (get_or bins i []) ≡ Some rest → front ≡ take i bins → with_bin ≡ front ++ rest ∷ []
    → made ≡ with_bin ++ take (length bins - (i + 1)) (drop (i + 1) bins) → Some made ≡ without item whole
without_made item i whole bins front with_bin made rest same l before here e f g =
    let r = take_rest bins (i + 1) in
    let t = without_at item bins i rest l before here in
    rw (g, f, e, ← same, t, append_assoc) (ap (λ others. Some (take i bins ++ rest ∷ others)) (r ∙ ap (λ n. drop n bins) (add-one i)))
