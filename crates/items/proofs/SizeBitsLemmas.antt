-- The sizes whose bits are set: which they are, those of a run of bits, and those of one more bit.
use Rattle.std.proofs.Common.{◌≡◌, ℕ, zero, suc, Bool, true, false, ◌+◌, ◌-◌, ◌*◌, ◌/◌, ◌^◌, ◌<◌, ◌≤◌, ◌≢◌, cond, eqb, List, [], ◌∷◌, ◌++◌, length, get_or, ◌%◌, bit_or}
use Rattle.std.proofs.Common.{All, Contains, refl, sym, ap, ◌∙◌, ◌↔◌, ◌⊎◌, ⊎_elim, inl, inr, subst, arith}
use Rattle.std.specs.Int.{bit_at, trailing_zeros, w128}
use Rattle.std.specs.List.{filter, range_with_len}
use Rattle.std.specs.List.Sorted.{IsStrictlyIncreasing}
use Rattle.std.proofs.lemmas.Bool.{cases_lt, cond-true, cond-false, eq-eqb, ne_eqb, eqb-true}
use Rattle.std.proofs.lemmas.List.{append-nil}
use Rattle.std.proofs.lemmas.List.Elements.{All-head, All-tail, All-filter, All-weaker, All-contains, All-contains_itself}
use Rattle.std.proofs.lemmas.List.Elements.{Contains-append_right, filter-append, filter_passes}
use Rattle.std.proofs.lemmas.List.FromFn.{length-range_with_len, get_or-range_with_len}
use Rattle.std.proofs.lemmas.List.Kept.{IsStrictlyIncreasing-filter}
use Rattle.std.proofs.lemmas.Nat.{pow_below, shr-shr, shr_le}
use Rattle.std.proofs.lemmas.Nat.Bits.{bit_at-zero, bit_at-trailing_zeros, bit_at_mask_inside, bit_at_mask_above, bit_at_set_same, bit_at_set_other}
use Rattle.items.specs.Multiset.{AreSizes, IsLeastAbove, IsSize}
use Rattle.items.specs.SizeBits.{IsClearFrom, sizes_in, sizes_up_to}
use Rattle.items.proofs.SizesLemmas.{within_range, Contains-range}

module _ (p : ℕ → Bool) where
  filter-yes : (xs : List ℕ) → All (λ x. p x ≡ true) xs → filter p xs ≡ xs
  filter-yes [] a = refl
  filter-yes (x ∷ xs) a =
      cond-true (p x) (x ∷ filter p xs) (filter p xs) (All-head (λ y. p y ≡ true) x xs a)
      ∙ ap (λ ys. x ∷ ys) (filter-yes xs (All-tail (λ y. p y ≡ true) x xs a))

  filter-no : (xs : List ℕ) → All (λ x. p x ≡ false) xs → filter p xs ≡ []
  filter-no [] a = refl
  filter-no (x ∷ xs) a =
      cond-false (p x) (x ∷ filter p xs) (filter p xs) (All-head (λ y. p y ≡ false) x xs a)
      ∙ filter-no xs (All-tail (λ y. p y ≡ false) x xs a)

  filter-alike : (q : ℕ → Bool) (xs : List ℕ) → All (λ x. p x ≡ q x) xs → filter p xs ≡ filter q xs
  filter-alike q [] a = refl
  filter-alike q (x ∷ xs) a =
      ap (λ ys. cond (p x) (x ∷ ys) ys) (filter-alike q xs (All-tail (λ y. p y ≡ q y) x xs a))
      ∙ ap (λ b. cond b (x ∷ filter q xs) (filter q xs)) (All-head (λ y. p y ≡ q y) x xs a)

  -- what stands in a list and passes stands among those kept
  Contains-filter : (xs : List ℕ) (x : ℕ) → p x ≡ true → Contains xs x → Contains (filter p xs) x
  Contains-filter [] x e c = absurd (let l : c.0 < 0 = c.1 in omega (arith, l))
  Contains-filter (y ∷ ys) x e (zero, l, same) =
      subst (λ zs. Contains zs x) (sym (cond-true (p y) (y ∷ filter p ys) (filter p ys) (ap p same ∙ e))) (zero, omega arith, same)
  Contains-filter (y ∷ ys) x e (suc i, l, same) =
      let rest = Contains-filter ys x e (i, omega (arith, l), same) in
      keep (p y) rest
    where
      keep : (b : Bool) → Contains (filter p ys) x → Contains (cond b (y ∷ filter p ys) (filter p ys)) x
      keep true r = Contains-append_right (y ∷ []) (filter p ys) x r
      keep false r = r

range-append : (first n more : ℕ) → range_with_len first (n + more) ≡ range_with_len first n ++ range_with_len (first + n) more
range-append first zero more = let e : first ≡ first + 0 = omega arith in let f : 0 + more ≡ more = omega arith in ap (range_with_len first) f ∙ ap (λ k. range_with_len k more) e
range-append first (suc n) more =
    let e : suc n + more ≡ suc (n + more) = omega arith in
    let f : first + 1 + n ≡ first + suc n = omega arith in
    ap (range_with_len first) e ∙ ap (λ xs. first ∷ xs) (range-append (first + 1) n more ∙ ap (λ k. range_with_len (first + 1) n ++ range_with_len k more) f)

-- what holds of each number from the first to before the end holds of each number of a range
All-range : (P : ℕ → Type 0) (first n : ℕ) → ((x : ℕ) → first ≤ x → x < first + n → P x) → All P (range_with_len first n)
All-range P first n h =
    All-weaker (Contains (range_with_len first n)) P (λ x c. let w = within_range first n x c in h x w.0 w.1) (range_with_len first n)
    (All-contains_itself (range_with_len first n))

IsStrictlyIncreasing-range : (first n : ℕ) → IsStrictlyIncreasing (range_with_len first n)
IsStrictlyIncreasing-range first n k l =
    let length_is = length-range_with_len first n in
    omega (arith, length_is, l, get_or-range_with_len first n k 0 (omega (arith, length_is, l)), get_or-range_with_len first n (k + 1) 0 (omega (arith, length_is, l)))

is_on : ℕ → ℕ → Bool
is_on bits size = eqb (bit_at bits size) 1

-- the sizes of a run of bits
pub sizes_of_run : (bits run most : ℕ) → run ≤ most → ((s : ℕ) → 1 ≤ s → s ≤ run → bit_at bits s ≡ 1) → ((s : ℕ) → run < s → bit_at bits s ≡ 0)
    → sizes_up_to most bits ≡ range_with_len 1 run
sizes_of_run bits run most l on off =
    let p : ℕ → Bool = λ s. eqb (bit_at bits s) 1 in
    let first = range_with_len 1 run in
    let rest = range_with_len (1 + run) (most - run) in
    ap (λ n. filter p (range_with_len 1 n)) (let e : most ≡ run + (most - run) = omega (arith, l) in e)
    ∙ ap (filter p) (range-append 1 run (most - run))
    ∙ filter-append p first rest
    ∙ ap (λ xs. xs ++ filter p rest) (filter-yes p first (All-range (λ s. p s ≡ true) 1 run (λ s a b. eq-eqb (bit_at bits s) 1 (on s a (omega (arith, b))))))
    ∙ ap (λ xs. first ++ xs) (filter-no p rest
    (All-range (λ s. p s ≡ false) (1 + run) (most - run) (λ s a b. ne_eqb (bit_at bits s) 1 (λ e. omega (arith, e, off s (omega (arith, a)))))))
    ∙ append-nil first

-- the sizes with one more bit, which is above all those set
pub sizes_with_greater : (old new size most : ℕ) → 1 ≤ size → size ≤ most → IsClearFrom size old → bit_at new size ≡ 1 → ((i : ℕ) → i ≢ size → bit_at new i ≡ bit_at old i)
    → sizes_up_to most new ≡ sizes_up_to most old ++ size ∷ []
sizes_with_greater old new size most low high clear on same =
    let p : ℕ → Bool = λ s. eqb (bit_at old s) 1 in
    let q : ℕ → Bool = λ s. eqb (bit_at new s) 1 in
    let first = range_with_len 1 (size - 1) in
    let rest = range_with_len (size + 1) (most - size) in
    let whole : range_with_len 1 most ≡ first ++ size ∷ rest =
    ap (range_with_len 1) (let e : most ≡ (size - 1) + suc (most - size) = omega (arith, low, high) in e)
    ∙ range-append 1 (size - 1) (suc (most - size))
    ∙ ap (λ n. first ++ range_with_len n (suc (most - size))) (let e : 1 + (size - 1) ≡ size = omega (arith, low) in e) in
    let first_alike = filter-alike q p first (All-range (λ s. q s ≡ p s) 1 (size - 1) (λ s a b. ap (λ n. eqb n 1) (same s (λ e. omega (arith, e, b, low))))) in
    let rest_off = filter-no q rest (All-range (λ s. q s ≡ false) (size + 1) (most - size)
    (λ s a b. ne_eqb (bit_at new s) 1 (λ e. omega (arith, e, same s (λ x. omega (arith, x, a)), clear s (omega (arith, a)))))) in
    let old_off = filter-no p (size ∷ rest) (subst (All (λ s. p s ≡ false)) (let e : range_with_len size (suc (most - size)) ≡ size ∷ rest = refl in e)
    (All-range (λ s. p s ≡ false) size (suc (most - size)) (λ s a b. ne_eqb (bit_at old s) 1 (λ e. omega (arith, e, clear s a))))) in
    let made : filter q (range_with_len 1 most) ≡ filter p first ++ size ∷ [] =
    ap (filter q) whole ∙ filter-append q first (size ∷ rest) ∙ ap (λ xs. xs ++ filter q (size ∷ rest)) first_alike
    ∙ ap (λ xs. filter p first ++ xs) (cond-true (q size) (size ∷ filter q rest) (filter q rest) (eq-eqb (bit_at new size) 1 on) ∙ ap (λ xs. size ∷ xs) rest_off) in
    let was : filter p (range_with_len 1 most) ≡ filter p first =
    ap (filter p) whole ∙ filter-append p first (size ∷ rest) ∙ ap (λ xs. filter p first ++ xs) old_off ∙ append-nil (filter p first) in
    made ∙ ap (λ xs. xs ++ size ∷ []) (sym was)

-- which sizes stand for a word
pub Contains_sizes : (bits size most : ℕ) → Contains (sizes_up_to most bits) size ↔ (IsSize most size × (bit_at bits size ≡ 1))
Contains_sizes bits size most =
    let p : ℕ → Bool = λ s. eqb (bit_at bits s) 1 in
    let range = range_with_len 1 most in (
      λ c.
          let there = within_range 1 most size (All-contains (Contains range) (filter p range) size (All-filter p (Contains range) range (All-contains_itself range)) c) in
          let on = All-contains (λ s. p s ≡ true) (filter p range) size (filter_passes p range) c in
          (record { low = there.0; high = omega (arith, there.1) }, eqb-true (bit_at bits size) 1 on),
      λ h. Contains-filter p range size (eq-eqb (bit_at bits size) 1 h.1) (Contains-range 1 most size h.0.low (omega (arith, h.0.high))),
    )

pub Contains_sizes_in : (bits size : ℕ) → Contains (sizes_in bits) size ↔ (IsSize 120 size × (bit_at bits size ≡ 1))
unfolding sizes_in
Contains_sizes_in bits size = Contains_sizes bits size 120

IsStrictlyIncreasing-sizes_in : (bits : ℕ) → IsStrictlyIncreasing (sizes_in bits)
unfolding sizes_in
IsStrictlyIncreasing-sizes_in bits = IsStrictlyIncreasing-filter (λ s. eqb (bit_at bits s) 1) (range_with_len 1 120) (IsStrictlyIncreasing-range 1 120)

-- what a word stands for is a list of sizes
pub AreSizes-sizes_in : (bits : ℕ) → (sizes_in bits ≡ [] → ⊥) → AreSizes 120 (sizes_in bits)
AreSizes-sizes_in bits some = record {
  nonempty = some;
  ascending = IsStrictlyIncreasing-sizes_in bits;
  sizes = All-weaker (Contains (sizes_in bits)) (IsSize 120) (λ s c. ((Contains_sizes_in bits s).0 c).0) (sizes_in bits) (All-contains_itself (sizes_in bits));
}

-- where no bit is set from a place on, all sizes are below it
pub sizes_below : (bits most last : ℕ) → IsClearFrom (last + 1) bits → last ≤ most → All (IsSize most) (sizes_in bits)
sizes_below bits most last clear l =
    All-weaker (Contains (sizes_in bits)) (IsSize most) (λ s c.
    let h = (Contains_sizes_in bits s).0 c in
    record {
      low = h.0.low;
      high = ⊎_elim (λ small. omega (arith, small, l)) (λ large. absurd (omega (arith, h.1, clear s large))) (cases_lt s (last + 1));
    }) (sizes_in bits) (All-contains_itself (sizes_in bits))

pub some_sizes : (most : ℕ) (xs : List ℕ) → 1 ≤ most → xs ≡ range_with_len 1 most → xs ≡ [] → ⊥
some_sizes most xs l e none = omega (arith, l, length-range_with_len 1 most, ap length (sym none ∙ e))

-- the word of the sizes from 1 to a greatest one
run_word : (most : ℕ) → most ≤ 120 → 1 * 2 ^ (most + 1) % 2 ^ 128 - 2 ≡ 2 ^ (most + 1) - 2 ^ 1
run_word most l = let fits : 2 ^ (most + 1) < 2 ^ 128 = pow_below (most + 1) 128 (omega (arith, l)) in small (2 ^ (most + 1)) fits
  where
    small : (n : ℕ) → n < 2 ^ 128 → 1 * n % 2 ^ 128 - 2 ≡ n - 2
    small n fits = omega (arith, fits)

pub run_in : (most : ℕ) → most ≤ 120 → sizes_in (1 * 2 ^ (most + 1) % 2 ^ 128 - 2) ≡ range_with_len 1 most
unfolding sizes_in
run_in most l =
    subst (λ (n : ℕ). sizes_up_to 120 n ≡ range_with_len 1 most) (sym (run_word most l))
    (sizes_of_run (2 ^ (most + 1) - 2 ^ 1) most 120 l (λ s a b. bit_at_mask_inside 1 (most + 1) s a (omega (arith, b)))
    (λ s a. bit_at_mask_above 1 (most + 1) s (omega (arith, a))))

pub run_clear : (most : ℕ) → most ≤ 120 → IsClearFrom 121 (1 * 2 ^ (most + 1) % 2 ^ 128 - 2)
run_clear most l place above = ap (λ n. bit_at n place) (run_word most l) ∙ bit_at_mask_above 1 (most + 1) place (omega (arith, above, l))

-- a word with one more bit
pub sizes_with_bit : (bits size : ℕ) → 1 ≤ size → size ≤ 120 → IsClearFrom size bits → sizes_in (bit_or bits (1 * 2 ^ size % 2 ^ 128)) ≡ sizes_in bits ++ size ∷ []
unfolding sizes_in
sizes_with_bit bits size low high clear =
    sizes_with_greater bits (bit_or bits (1 * 2 ^ size % 2 ^ 128)) size 120 low high clear
    (bit_at_set_same w128 bits size (omega (arith, high))) (λ i other. bit_at_set_other w128 bits size (omega (arith, high)) i other)

pub clear_with_bit : (bits size : ℕ) → size ≤ 120 → IsClearFrom size bits → IsClearFrom (size + 1) (bit_or bits (1 * 2 ^ size % 2 ^ 128))
clear_with_bit bits size high clear place above =
    bit_at_set_other w128 bits size (omega (arith, high)) place (λ e. omega (arith, e, above)) ∙ clear place (omega (arith, above))

-- what holds of each size whose bit is set holds of each size
All_set : (P : ℕ → Type 0) (bits : ℕ) → ((s : ℕ) → IsSize 120 s → bit_at bits s ≡ 1 → P s) → All P (sizes_in bits)
All_set P bits h =
    All-weaker (Contains (sizes_in bits)) P (λ s c. let t = (Contains_sizes_in bits s).0 c in h s t.0 t.1) (sizes_in bits) (All-contains_itself (sizes_in bits))

-- the bits above a place, moved down
bit_at_rest : (bits low place : ℕ) → bit_at (bits / 2 ^ low) place ≡ bit_at bits (low + place)
bit_at_rest bits low place = ap (λ n. n % 2) (shr-shr bits low place)

pub none_above_greatest : (bits s : ℕ) → 120 ≤ s → All (λ size. size ≤ s) (sizes_in bits)
none_above_greatest bits s l = All_set (λ size. size ≤ s) bits (λ size is on. omega (arith, is.high, l))

pub none_above : (bits s : ℕ) → bits / 2 ^ (s + 1) ≡ 0 → All (λ size. size ≤ s) (sizes_in bits)
none_above bits s e = All_set (λ size. size ≤ s) bits (λ size is on.
    ⊎_elim (λ small. omega (arith, small)) (λ large.
    absurd (omega (
      arith,
      on,
      bit_at_rest bits (s + 1) (size - (s + 1)),
      ap (λ n. bit_at n (size - (s + 1))) e,
      bit_at-zero (size - (s + 1)),
      ap (bit_at bits) (let same : s + 1 + (size - (s + 1)) ≡ size = omega (arith, large) in same),
    ))) (cases_lt size (s + 1)))

pub least_above_place : (bits s : ℕ) → IsClearFrom 121 bits → bits < 2 ^ 128 → 0 < bits / 2 ^ (s + 1)
    → IsLeastAbove (sizes_in bits) s (s + 1 + trailing_zeros w128 (bits / 2 ^ (s + 1)))
least_above_place bits s clear fits some =
    let rest = bits / 2 ^ (s + 1) in
    let first = bit_at-trailing_zeros w128 rest some (let l = shr_le bits (s + 1) in omega (arith, l, fits)) in
    let zeros = trailing_zeros w128 rest in
    let on : bit_at bits (s + 1 + zeros) ≡ 1 = sym (bit_at_rest bits (s + 1) zeros) ∙ first.1 in
    record {
      one = (Contains_sizes_in bits (s + 1 + zeros)).1 (
        record {
          low = omega arith;
          high = ⊎_elim (λ small. omega (arith, small)) (λ large. absurd (omega (arith, on, clear (s + 1 + zeros) large))) (cases_lt (s + 1 + zeros) 121);
        },
        on,
      );
      above = omega arith;
      least = All_set (λ size. s < size → s + 1 + zeros ≤ size) bits (λ size is set above.
          ⊎_elim (λ early.
          absurd (omega (
            arith,
            set,
            first.2 (size - (s + 1)) (omega (arith, early, above)),
            bit_at_rest bits (s + 1) (size - (s + 1)),
            ap (bit_at bits) (let same : s + 1 + (size - (s + 1)) ≡ size = omega (arith, above) in same),
          ))) (λ late. late) (cases_lt size (s + 1 + zeros)));
    }

-- a list of sizes that is read from its front: where it doesn't rise from the last one, it is none
pub rises_from_last : (most i last s : ℕ) (xs : List ℕ) → AreSizes most xs → i < length xs → (i ≡ 0 → last ≡ 0) → (1 ≤ i → last ≡ get_or xs (i - 1) 0) → s ≡ get_or xs i 0
    → (last < s) × (s ≤ most)
rises_from_last most zero last s xs a l first later e = let size = a.sizes 0 0 l in (omega (arith, first refl, size.low, e), omega (arith, size.high, e))
rises_from_last most (suc i) last s xs a l first later e =
    let size = a.sizes (suc i) 0 l in
    let up = a.ascending i (omega (arith, l)) in
    let next : get_or xs (i + 1) 0 ≡ get_or xs (suc i) 0 = ap (λ n. get_or xs n 0) (omega arith) in
    let before : get_or xs (suc i - 1) 0 ≡ get_or xs i 0 = ap (λ n. get_or xs n 0) (omega arith) in
    (omega (arith, later (omega arith), before, up, next, e), omega (arith, size.high, e))

-- a word without a bit stands for no sizes
pub sizes_in-zero : sizes_in 0 ≡ []
unfolding sizes_in
sizes_in-zero = sizes_of_run 0 0 120 (omega arith) (λ s a b. absurd (omega (arith, a, b))) (λ s a. bit_at-zero s)

-- the sizes of a list that was read, in a game whose capacity none of them passes
pub AreSizes-read : (bits most last : ℕ) (xs : List ℕ) → sizes_in bits ≡ xs → (xs ≡ [] → ⊥) → IsClearFrom (last + 1) bits → last ≤ most → AreSizes most xs
AreSizes-read bits most last xs e some clear l = record {
  nonempty = some;
  ascending = subst IsStrictlyIncreasing e (IsStrictlyIncreasing-sizes_in bits);
  sizes = subst (All (IsSize most)) e (sizes_below bits most last clear l);
}

pub some_left : (n : ℕ) → (n ≡ 0 → ⊥) → 0 < n
some_left n h = ⊎_elim (λ e. absurd (h e)) (λ l. l) (zero_or_more n)
  where
    zero_or_more : (k : ℕ) → (k ≡ 0) ⊎ (0 < k)
    zero_or_more zero = inl refl
    zero_or_more (suc k) = inr (omega arith)

pub clear_up_to_greatest : (bits most last : ℕ) → IsClearFrom (last + 1) bits → last ≤ most → most ≤ 120 → IsClearFrom 121 bits
clear_up_to_greatest bits most last clear l within place above = clear place (omega (arith, l, within, above))
