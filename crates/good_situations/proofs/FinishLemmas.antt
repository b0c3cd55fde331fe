-- Whether loads finish after an item, told from the total of all of them.
use Rattle.std.proofs.Common.{◌≡◌, ◌≢◌, ℕ, zero, suc, ◌+◌, ◌<◌, ◌≤◌, cond, List, [], ◌∷◌, length, get_or, take, refl, sym, ap, ◌∙◌, arith}
use Rattle.std.specs.Prelude.{Contains}
use Rattle.std.specs.List.{sum_by}
use Rattle.std.proofs.lemmas.Bool.{ne_eqb}
use Rattle.std.proofs.lemmas.List.{get_or_default}
use Rattle.std.proofs.lemmas.List.Sums.{sum_by-cons}
use Rattle.items.specs.Multiset.{count}
use Rattle.loads.specs.Descending.{IsDescending, take_out}
use Rattle.loads.specs.Loads.{loads_after}
use Rattle.loads.proofs.CountLemmas.{Contains-from_count, count_above_zero}
use Rattle.loads.proofs.DescendingLemmas.{IsDescending-head, IsDescending-put, IsDescending-tail, IsDescending-take_out}
use Rattle.loads.proofs.LoadsLemmas.{count-loads_after, length-loads_after, loads_after-rises, sum_by-loads_after}

-- the last of descending numbers is the least
last_le : (xs : List ℕ) (k i : ℕ) → length xs ≡ suc k → IsDescending xs → i < length xs → get_or xs k 0 ≤ get_or xs i 0
last_le [] k i len h l = absurd (omega (arith, len))
last_le (x ∷ []) zero zero len h l = omega arith
last_le (x ∷ []) zero (suc i) len h l = absurd (omega (arith, l))
last_le (x ∷ []) (suc k) i len h l = absurd (omega (arith, len))
last_le (x ∷ y ∷ ys) zero i len h l = absurd (omega (arith, len))
last_le (x ∷ y ∷ ys) (suc k) zero len h l =
    omega (arith, last_le (y ∷ ys) k 0 (omega (arith, len)) (IsDescending-tail x (y ∷ ys) h) (omega arith), IsDescending-head x y ys h)
last_le (x ∷ y ∷ ys) (suc k) (suc i) len h l = last_le (y ∷ ys) k i (omega (arith, len)) (IsDescending-tail x (y ∷ ys) h) (omega (arith, l))

-- a sum is that of all but the last, and the last
but_last : (f : ℕ → ℕ) (xs : List ℕ) (k : ℕ) → length xs ≡ suc k → sum_by f xs ≡ sum_by f (take k xs) + f (get_or xs k 0)
but_last f [] k len = absurd (omega (arith, len))
but_last f (x ∷ []) zero len = omega (arith, sum_by-cons f x [])
but_last f (x ∷ y ∷ ys) zero len = absurd (omega (arith, len))
but_last f (x ∷ xs) (suc k) len = omega (arith, sum_by-cons f x xs, sum_by-cons f x (take k xs), but_last f xs k (omega (arith, len)))

-- an item to another load leaves the least load the least
last_kept : (loads : List ℕ) (load size k : ℕ) → length loads ≡ suc k → IsDescending loads → Contains loads load → load ≢ get_or loads k 0
    → get_or (loads_after loads load size) k 0 ≡ get_or loads k 0
last_kept loads load size k len h member other =
    let after = loads_after loads load size in
    let least : ℕ = get_or loads k 0 in
    let len2 : length after ≡ suc k = length-loads_after loads load size member ∙ len in
    let here : Contains loads least = (k, omega (arith, len), get_or_default loads k least 0 (omega (arith, len)) ∙ refl) in
    let counted : 0 < count least after = omega (
      arith,
      count_above_zero least loads here,
      count-loads_after least loads load size member,
      ap {B = ℕ} (λ b. cond b 1 0) (ne_eqb least load (λ e. other (sym e))),
    ) in
    let there = Contains-from_count least after counted in
    let descending = IsDescending-put (load + size) (take_out load loads) (IsDescending-take_out load loads h) in
    let low = last_le after k there.0 len2 descending there.1 in
    let at : get_or after there.0 0 ≡ least = get_or_default after there.0 0 least there.1 ∙ there.2 in
    omega (arith, low, at, loads_after-rises loads load size h member k)

-- what all loads but the least come to after an item to another load
pub total_after : (f : ℕ → ℕ) (loads : List ℕ) (load size k : ℕ) → length loads ≡ suc k → IsDescending loads → Contains loads load → load ≢ get_or loads k 0
    → sum_by f (take k (loads_after loads load size)) + f (get_or loads k 0) + f load ≡ sum_by f loads + f (load + size)
total_after f loads load size k len h member other =
    omega (
      arith,
      but_last f (loads_after loads load size) k (length-loads_after loads load size member ∙ len),
      ap f (last_kept loads load size k len h member other),
      sum_by-loads_after f loads load size member,
    )
