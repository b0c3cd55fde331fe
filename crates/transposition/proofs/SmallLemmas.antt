-- Positions with few and small items: what their bytes stand for.
use Rattle.std.proofs.Common.{◌≡◌, ◌↔◌, ◌&&◌, ℕ, zero, suc, ◌+◌, ◌-◌, ◌*◌, ◌<◌, ◌≤◌, max, Bool, true, false, cond, IsTrue, All, List, [], ◌∷◌, ◌++◌, length}
use Rattle.std.proofs.Common.{get_or, set, take, drop, replicate, sum}
use Rattle.std.proofs.Common.{refl, sym, ap, ◌∙◌, subst, eqb, leb, arith}
use Rattle.std.specs.Bool.{Decides}
use Rattle.std.specs.Cmp.Lexicographic.{pointwise}
use Rattle.std.proofs.lemmas.Bool.{leb-true, le-leb, lt-leb, and_from}
use Rattle.std.proofs.lemmas.Bool.Decides.{Decides-eqb, Decides-and}
use Rattle.std.proofs.lemmas.Slice.Eq.{slice_eq-Decides}
use Rattle.std.proofs.lemmas.List.{append-nil, length-append, length-replicate, length-take, length-take-le, get_or-take, take-append-drop, take-append-le, take_all}
use Rattle.std.proofs.lemmas.List.Elements.{All-from_get_or, All-weaker}
use Rattle.std.proofs.lemmas.List.Sums.{sum_by-append}
use Rattle.items.specs.Multiset.{IsMultiset, IsSize, largest_of, put_ascending, put_times}
use Rattle.items.specs.Counters.{counters_of, expanded}
use Rattle.items.proofs.MultisetLemmas.{RisesFrom, IsNonDecreasing-from_rises, same_ascending, sum-put_times, Same-push_times, IsNonDecreasing-put_times}
use Rattle.items.proofs.CounterLemmas.{RisesFrom-expanded, expanded-append, counters_of-expanded, expanded-counters_of, expanded-past}
use Rattle.items.proofs.CounterLemmas.{expanded-drop, same_counters, counter-le-sum, length-counters_of, put-expanded, IsBetween, All-expanded}
use Rattle.items.proofs.MultisetLemmas.{largest_of-le, largest_of-put_ascending, sum-put_ascending}
use Rattle.loads.specs.Loads.{AreLoads}
use Rattle.loads.specs.Packed.{bytes_of}
use Rattle.loads.specs.Position.{position}
use Rattle.transposition.specs.SmallPositions.{IsSmallPosition, counted_position, are_small, padded, hashed}

-- counters of 0 stand for nothing
expanded-zeros : (k n : ℕ) → expanded k (replicate n 0) ≡ []
expanded-zeros k zero = refl
expanded-zeros k (suc n) = expanded-zeros (k + 1) n

expanded-and_zeros : (cs : List ℕ) (n : ℕ) → expanded 1 (cs ++ replicate n 0) ≡ expanded 1 cs
expanded-and_zeros cs n =
    expanded-append 1 cs (replicate n 0) ∙ ap (λ xs. expanded 1 cs ++ xs) (expanded-zeros (1 + length cs) n) ∙ append-nil (expanded 1 cs)

-- the first counters are found again in the items that they stand for
pub first-counters_of : (cs : List ℕ) → length cs ≡ 32 → take 32 (counters_of (expanded 1 cs)) ≡ cs
first-counters_of cs n =
    ap (take 32) (ap counters_of (sym (expanded-and_zeros cs 88))
    ∙ counters_of-expanded (cs ++ replicate 88 0) (length-append cs (replicate 88 0) ∙ omega (arith, n, length-replicate {A = ℕ} 88 0)))
    ∙ take-append-le 32 cs (replicate 88 0) (omega (arith, n)) ∙ take_all 32 cs (omega (arith, n))

-- items up to a size are what the counters up to that size stand for
pub expanded-first : (n : ℕ) (xs : List ℕ) → n ≤ 120 → IsMultiset 120 xs → largest_of xs ≤ n → expanded 1 (take n (counters_of xs)) ≡ xs
expanded-first n xs few m l =
    let front = take n (counters_of xs) in
    let rest = drop n (counters_of xs) in
    let at : 1 + length front ≡ n + 1 = omega (arith, length-take-le n (counters_of xs) (omega (arith, few, length-counters_of xs))) in
    sym (append-nil (expanded 1 front)) ∙ ap (λ ys. expanded 1 front ++ ys) (sym (ap (λ k. expanded k rest) at ∙ expanded-past n xs m l)) ∙ sym (expanded-append 1 front rest)
    ∙ ap (expanded 1) (take-append-drop n (counters_of xs)) ∙ expanded-counters_of xs m

-- each counter is at most the total
pub low-counters : (n most : ℕ) (xs : List ℕ) → IsMultiset 120 xs → sum xs ≤ most → most < 256 → All (λ c. c < 256) (take n (counters_of xs))
low-counters n most xs m l b =
    All-from_get_or (λ c. c < 256) (take n (counters_of xs)) 0 (λ i h.
    let e = get_or-take n (counters_of xs) i 0 (omega (arith, h, length-take n (counters_of xs))) in
    omega (arith, e, counter-le-sum i (counters_of xs), ap sum (expanded-counters_of xs m), l, b))

leb_decides : (a b : ℕ) → Decides (leb a b) (a ≤ b)
leb_decides a b = (leb-true a b, le-leb a b)

-- the test of small items
pub small_from_test : (xs : List ℕ) → are_small xs ≡ true → (largest_of xs ≤ 32) × (sum xs ≤ 255)
small_from_test xs e =
    let both = (Decides-and _ _ (leb_decides (largest_of xs) 32) (leb_decides (sum xs) 255)).0 e in both

pub test_from_small : (xs : List ℕ) → largest_of xs ≤ 32 → sum xs ≤ 255 → are_small xs ≡ true
test_from_small xs a b = and_from (leb (largest_of xs) 32) (leb (sum xs) 255) (le-leb (largest_of xs) 32 a) (le-leb (sum xs) 255 b)

-- the front of a rising list rises
RisesFrom-front : (low : ℕ) (xs ys : List ℕ) → RisesFrom low (xs ++ ys) → RisesFrom low xs
RisesFrom-front low [] ys r = tt
RisesFrom-front low (x ∷ xs) ys r = (r.0, RisesFrom-front x xs ys r.1)

-- the items of one more counter are put in
pub record IsPutNext (i : ℕ) (cs xs ys : List ℕ) : Type 0 where
  pub sum_fits : sum xs + get_or cs i 0 * (i + 1) ≤ sum (expanded 1 cs)
  pub put : put_times (get_or cs i 0) (i + 1) xs ++ expanded (i + 1 + 1) (drop (i + 1) cs) ≡ ys

pub put_next : (i : ℕ) (cs xs : List ℕ) → i < length cs → xs ++ expanded (i + 1) (drop i cs) ≡ expanded 1 cs → IsPutNext i cs xs (expanded 1 cs)
put_next i cs xs l e =
    let n = get_or cs i 0 in
    let front = xs ++ replicate n (i + 1) in
    let rest = expanded (i + 1 + 1) (drop (i + 1) cs) in
    let whole : front ++ rest ≡ expanded 1 cs = sym (expanded-drop i cs xs l) ∙ e in
    let rises : RisesFrom 1 front = RisesFrom-front 1 front rest (subst (RisesFrom 1) (sym whole) (RisesFrom-expanded 1 cs)) in
    let rises_xs : RisesFrom 1 xs = RisesFrom-front 1 xs (replicate n (i + 1)) rises in
    let same : put_times n (i + 1) xs ≡ front = sym (same_ascending front (put_times n (i + 1) xs) (IsNonDecreasing-from_rises 1 front rises)
    (IsNonDecreasing-put_times n (i + 1) xs (IsNonDecreasing-from_rises 1 xs rises_xs)) (Same-push_times n (i + 1) xs)) in
    record {
      sum_fits = omega (arith, sum_by-append (λ x. x) front rest, ap sum whole, ap sum same, sum-put_times n (i + 1) xs);
      put = ap (λ ys. ys ++ rest) same ∙ whole;
    }

-- the bytes of a position are found again in it
pub same_bytes : (b d v w : ℕ) (xs ys cs ds : List ℕ) → IsSmallPosition b v xs cs → IsSmallPosition d w ys ds → length xs ≡ 8 → length ys ≡ 8 → length cs ≡ length ds
    → counted_position b xs cs ≡ counted_position d ys ds → (b ≡ d) × (xs ≡ ys) × (cs ≡ ds)
same_bytes b d v w xs ys cs ds p q m n l e =
    let loads : take b xs ≡ take d ys = ap (λ r. r.loads) e in (
      omega (arith, ap length loads, length-take-le b xs (omega (arith, m, p.few)), length-take-le d ys (omega (arith, n, q.few))),
      sym p.rest ∙ ap padded loads ∙ q.rest,
      same_counters 1 cs ds l (ap (λ r. r.items) e),
    )

pub record AreBytesOf (b d v w : ℕ) (xs ys cs ds : List ℕ) : Type 0 where
  pub first : IsSmallPosition b v xs cs
  pub second : IsSmallPosition d w ys ds
  pub first_loads : length xs ≡ 8
  pub second_loads : length ys ≡ 8
  pub counters : length cs ≡ length ds

pub same_positions : (b d v w : ℕ) (xs ys cs ds : List ℕ) (r s : Bool) → AreBytesOf b d v w xs ys cs ds → r ≡ pointwise eqb xs ys → s ≡ pointwise eqb cs ds
    → IsTrue ((eqb b d && r) && s) ↔ (counted_position b xs cs ≡ counted_position d ys ds)
same_positions b d v w xs ys cs ds r s h e f =
    let loads = slice_eq-Decides Decides-eqb xs ys r e in
    let counters = slice_eq-Decides Decides-eqb cs ds s f in
    let both = Decides-and _ _ (Decides-and _ _ (Decides-eqb b d) loads) counters in (
      λ t. let equal = both.0 t in
          ap (λ n. counted_position n xs cs) equal.0.0 ∙ ap (λ zs. counted_position d zs cs) equal.0.1 ∙ ap (counted_position d ys) equal.1,
      λ q. let equal = same_bytes b d v w xs ys cs ds h.first h.second h.first_loads h.second_loads h.counters q in both.1 ((equal.0, equal.1), equal.2),
    )

-- the first loads are found again among the padded ones
take-padded : (loads : List ℕ) → take (length loads) (padded loads) ≡ loads
take-padded loads = take-append-le (length loads) loads (replicate (8 - length loads) 0) (omega arith) ∙ take_all (length loads) loads (omega arith)

-- loads and counters with a small total are a small position
pub IsSmallPosition-from : (loads cs : List ℕ) (v : ℕ) → AreLoads loads → v ≡ sum (expanded 1 cs) → v ≤ 255
    → IsSmallPosition (length loads) v (padded loads) cs
IsSmallPosition-from loads cs v legal e l =
    let same = take-padded loads in
    record { few = legal.few; legal = subst AreLoads (sym same) legal; rest = ap padded same; total = omega (arith, e, l); volume_is = e }

pub counted_position-from : (loads cs : List ℕ) → counted_position (length loads) (padded loads) cs ≡ position loads (expanded 1 cs)
counted_position-from loads cs = ap (λ ls. position ls (expanded 1 cs)) (take-padded loads)

-- a position with small items, in its bytes
pub IsSmallPosition-of : (loads xs : List ℕ) → AreLoads loads → IsMultiset 120 xs → are_small xs ≡ true
    → IsSmallPosition (length loads) (sum xs) (padded loads) (take 32 (counters_of xs))
IsSmallPosition-of loads xs legal m small =
    let test = small_from_test xs small in
    IsSmallPosition-from loads (take 32 (counters_of xs)) (sum xs) legal (ap sum (sym (expanded-first 32 xs (omega arith) m test.0))) test.1

pub counted_position-of : (loads xs : List ℕ) → IsMultiset 120 xs → are_small xs ≡ true
    → counted_position (length loads) (padded loads) (take 32 (counters_of xs)) ≡ position loads xs
counted_position-of loads xs m small =
    let test = small_from_test xs small in
    counted_position-from loads (take 32 (counters_of xs)) ∙ ap (position loads) (expanded-first 32 xs (omega arith) m test.0)

-- the test of small items after one more item
with_small : (s : ℕ) (cs : List ℕ) → largest_of (put_ascending s (expanded 1 cs)) ≡ max s (largest_of (expanded 1 cs))
with_small s cs = largest_of-put_ascending 1 s (expanded 1 cs) (RisesFrom-expanded 1 cs)

pub small_with : (s v : ℕ) (cs : List ℕ) → length cs ≡ 32 → v ≡ sum (expanded 1 cs) → s ≤ 32
    → leb (v + s) 255 ≡ are_small (put_ascending s (expanded 1 cs))
small_with s v cs n e l =
    let ys = put_ascending s (expanded 1 cs) in
    let sizes = All-weaker (IsBetween 1 (length cs)) (IsSize 32) (λ x h. record { low = h.0; high = omega (arith, h.1, n) }) (expanded 1 cs) (All-expanded 1 cs) in
    let largest = le-leb (largest_of ys) 32 (omega (arith, with_small s cs, largest_of-le 32 (expanded 1 cs) sizes, l)) in
    ap (λ t. leb t 255) (omega (arith, sum-put_ascending s (expanded 1 cs), e)) ∙ sym (ap (λ b. b && leb (sum ys) 255) largest)

pub large_with : (s : ℕ) (cs : List ℕ) → 32 < s → false ≡ are_small (put_ascending s (expanded 1 cs))
large_with s cs l =
    let ys = put_ascending s (expanded 1 cs) in
    sym (ap (λ b. b && leb (sum ys) 255) (lt-leb (largest_of ys) 32 (omega (arith, with_small s cs, l))))

-- one more item is counted
pub record IsCountedOn (s v : ℕ) (loads cs : List ℕ) : Type 0 where
  pub low : s ≤ 32
  pub total : v + s ≤ 255
  pub counter : get_or cs (s - 1) 0 + 1 ≤ 255
  pub legal : IsSmallPosition (length loads) (v + s) (padded loads) (set cs (s - 1) (get_or cs (s - 1) 0 + 1))
  pub counted : counted_position (length loads) (padded loads) (set cs (s - 1) (get_or cs (s - 1) 0 + 1))
      ≡ position loads (put_ascending s (expanded 1 cs))

pub IsCountedOn-small : (s v : ℕ) (loads cs : List ℕ) → length cs ≡ 32 → v ≡ sum (expanded 1 cs) → AreLoads loads → 1 ≤ s
    → are_small (put_ascending s (expanded 1 cs)) ≡ true → IsCountedOn s v loads cs
IsCountedOn-small s v loads cs n e legal low small =
    let test = small_from_test (put_ascending s (expanded 1 cs)) small in
    let few : s ≤ 32 = omega (arith, with_small s cs, test.0) in
    let total = sum-put_ascending s (expanded 1 cs) in
    let more = set cs (s - 1) (get_or cs (s - 1) 0 + 1) in
    let put = put-expanded 1 (s - 1) s cs (omega (arith, low)) (omega (arith, low, few, n)) in
    let fits : v + s ≤ 255 = omega (arith, total, test.1, e) in
    record {
      low = few;
      total = fits;
      counter = omega (arith, counter-le-sum (s - 1) cs, e, fits, low);
      legal = IsSmallPosition-from loads more (v + s) legal (omega (arith, ap sum put, total, e)) fits;
      counted = counted_position-from loads more ∙ ap (position loads) put;
    }

-- what a hash takes in, by the form of the position
pub hashed-small : (loads xs : List ℕ) → are_small xs ≡ true → hashed loads xs ≡ padded loads ∷ take 32 (counters_of xs) ∷ []
unfolding hashed
hashed-small loads xs e = ap (λ b. cond b (padded loads ∷ take 32 (counters_of xs) ∷ []) (bytes_of (position loads xs) ∷ [])) e

pub hashed-large : (loads xs : List ℕ) → are_small xs ≡ false → hashed loads xs ≡ bytes_of (position loads xs) ∷ []
unfolding hashed
hashed-large loads xs e = ap (λ b. cond b (padded loads ∷ take 32 (counters_of xs) ∷ []) (bytes_of (position loads xs) ∷ [])) e
