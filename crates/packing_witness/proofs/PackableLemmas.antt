-- Assignments from packings, packings from assignments, and what follows for packable lists.
use Rattle.std.proofs.Common.{◌≡◌, ◌≢◌, ℕ, zero, suc, ◌+◌, ◌*◌, ◌<◌, ◌≤◌, Some, None, List, [], ◌∷◌}
use Rattle.std.proofs.Common.{◌++◌, length, get_or, sum, cond, eqb, refl, sym, ap, ◌∙◌, inl, inr, subst, arith}
use Rattle.std.specs.Prelude.{All}
use Rattle.std.specs.List.{concat, sum_by, count_by}
use Rattle.std.proofs.lemmas.Bool.{cases_eq, cases_lt, cond-true, cond-false, eq-eqb, ne_eqb, lt-ltb, le-ltb}
use Rattle.std.proofs.lemmas.List.{length-append}
use Rattle.std.proofs.lemmas.List.Sums.{sum_by-cons, sum_by-append, sum_by-le}
use Rattle.std.proofs.lemmas.List.Elements.{All-nil, All-cons, All-head, All-tail, All-get_or, All-weaker}
use Rattle.items.specs.Game.{GameNumbers}
use Rattle.items.specs.Multiset.{count, Same, IsSize, is_big, put_ascending}
use Rattle.items.specs.Packable.{Packable, IsPacking, bin_total}
use Rattle.items.proofs.AssignmentLemmas.{IsAssignment-nil}
use Rattle.items.proofs.MultisetLemmas.{count-append, count_this, count_other, sum_by-Same, sum-Same, Same-push_put}
use Rattle.packing_witness.specs.Edits.{first_out, without}
use Rattle.packing_witness.specs.Sublist.{IsSublistOf}
use Rattle.packing_witness.specs.Sublist.IsSublistOf.{empty, kept, left_out}
pub use Rattle.items.proofs.MemberLemmas.{at_count, all_from_counts}
use Rattle.packing_witness.specs.Contents.{contents_of}
use Rattle.packing_witness.proofs.ContentsLemmas.{IsPacking-contents}

-- a list without the first such number
pub record IsFirstOut (item : ℕ) (xs rest : List ℕ) : Type 0 where
  pub is : first_out item xs ≡ Some rest
  pub counts : (x : ℕ) → cond (eqb x item) 1 0 + count x rest ≡ count x xs
  pub total : item + sum rest ≡ sum xs

first_out_later : (item x : ℕ) (xs rest : List ℕ) → item ≢ x → first_out item xs ≡ Some rest → first_out item (x ∷ xs) ≡ Some (x ∷ rest)
first_out_later item x xs rest ne e = let t = ne_eqb item x ne in rw (t, e) refl

pub first_out_here : (item : ℕ) (xs : List ℕ) → 0 < count item xs → (rest : List ℕ) × IsFirstOut item xs rest
first_out_here item [] some = absurd (omega arith)
first_out_here item (x ∷ xs) some = elim (cases_eq item x) [
  | inl e ↦ (
    xs,
    record {
      is = let t = eq-eqb item x e in rw t refl;
      counts = λ z. rw e refl;
      total = omega (arith, e, sum_by-cons (λ n. n) x xs);
    },
  )
  | inr ne ↦
      let r = first_out_here item xs (omega (arith, some, count_other item x (count item xs) ne)) in (
        x ∷ r.0,
        record {
          is = first_out_later item x xs r.0 ne r.1.is;
          counts = λ z. omega (arith, r.1.counts z);
          total = omega (arith, r.1.total, sum_by-cons (λ n. n) x xs, sum_by-cons (λ n. n) x r.0);
        },
      )
]

pub first_out_none : (item : ℕ) (xs : List ℕ) → count item xs ≡ 0 → first_out item xs ≡ None
first_out_none item [] none = refl
first_out_none item (x ∷ xs) none = elim (cases_eq item x) [
  | inl e ↦ absurd (omega (arith, none, count_this item x (count item xs) e))
  | inr ne ↦
      let t = ne_eqb item x ne in
      let r = first_out_none item xs (omega (arith, none, count_other item x (count item xs) ne)) in
      rw (t, r) refl
]

-- bins after a number was taken out of the bin at a place
pub record IsTakenFrom (item place : ℕ) (bins rest : List (List ℕ)) : Type 0 where
  pub is : without item bins ≡ Some rest
  pub in_range : place < length bins
  pub one_each : length rest ≡ length bins
  pub counts : (x : ℕ) → cond (eqb x item) 1 0 + count x (concat rest) ≡ count x (concat bins)
  pub here : item + sum (get_or rest place []) ≡ sum (get_or bins place [])
  pub others : (bin : ℕ) → bin ≢ place → get_or rest bin [] ≡ get_or bins bin []

other_places : (rest bin : List ℕ) (bins : List (List ℕ)) (place : ℕ) → place ≢ 0 → get_or (rest ∷ bins) place [] ≡ get_or (bin ∷ bins) place []
other_places rest bin bins zero ne = absurd (ne refl)
other_places rest bin bins (suc place) ne = refl

later_places : (bin : List ℕ) (rest bins : List (List ℕ)) (place : ℕ) → ((k : ℕ) → k ≢ place → get_or rest k [] ≡ get_or bins k []) → (k : ℕ) → k ≢ suc place
    → get_or (bin ∷ rest) k [] ≡ get_or (bin ∷ bins) k []
later_places bin rest bins place others zero ne = refl
later_places bin rest bins place others (suc k) ne = others k (λ e. ne (ap suc e))

pub without_here : (item : ℕ) (bins : List (List ℕ)) → 0 < count item (concat bins) → (rest : List (List ℕ)) × (place : ℕ) × IsTakenFrom item place bins rest
without_here item [] some = absurd (omega arith)
without_here item (bin ∷ bins) some = elim (cases_lt 0 (count item bin)) [
  | inl has ↦
      let r = first_out_here item bin has in (
        r.0 ∷ bins,
        0,
        record {
          is = rw r.1.is refl;
          in_range = omega arith;
          one_each = refl;
          counts = λ x. omega (arith, r.1.counts x, count-append x bin (concat bins), count-append x r.0 (concat bins));
          here = r.1.total;
          others = other_places r.0 bin bins;
        },
      )
  | inr lacks ↦
      let none : count item bin ≡ 0 = omega arith in
      let r = without_here item bins (omega (arith, some, none, count-append item bin (concat bins))) in (
        bin ∷ r.0,
        suc r.1,
        record {
          is = let t = first_out_none item bin none in let u = r.2.is in rw (t, u) refl;
          in_range = omega (arith, r.2.in_range);
          one_each = ap suc r.2.one_each;
          counts = λ x. omega (arith, r.2.counts x, count-append x bin (concat bins), count-append x bin (concat r.0));
          here = r.2.here;
          others = later_places bin r.0 bins r.1 r.2.others;
        },
      )
]

-- what the entries for one more item add to a bin's total
bin_total_this : (bin place item : ℕ) (items places : List ℕ) → bin ≡ place → bin_total bin (item ∷ items) (place ∷ places) ≡ item + bin_total bin items places
bin_total_this bin place item items places e = let t = eq-eqb bin place e in rw t refl

bin_total_other : (bin place item : ℕ) (items places : List ℕ) → bin ≢ place → bin_total bin (item ∷ items) (place ∷ places) ≡ bin_total bin items places
bin_total_other bin place item items places ne = let t = ne_eqb bin place ne in rw t (omega arith)

-- a bin for each item such that no bin gets more than it had
pub record IsWithin (bins : List (List ℕ)) (items places : List ℕ) : Type 0 where
  pub one_each : length places ≡ length items
  pub in_range : All (λ place. place < length bins) places
  pub totals : (bin : ℕ) → bin_total bin items places ≤ sum (get_or bins bin [])

totals_with : (item place : ℕ) (items places : List ℕ) (bins rest : List (List ℕ)) → IsTakenFrom item place bins rest
    → ((bin : ℕ) → bin_total bin items places ≤ sum (get_or rest bin [])) → (bin : ℕ) → bin_total bin (item ∷ items) (place ∷ places) ≤ sum (get_or bins bin [])
totals_with item place items places bins rest taken totals bin = elim (cases_eq bin place) [
  | inl e ↦ omega (arith, bin_total_this bin place item items places e, totals bin, taken.here, ap (λ k. sum (get_or rest k [])) e, ap (λ k. sum (get_or bins k [])) e)
  | inr ne ↦ omega (arith, bin_total_other bin place item items places ne, totals bin, ap sum (taken.others bin ne))
]

-- items that stand in bins can each be assigned to a bin that has it
pub assigned : (items : List ℕ) (bins : List (List ℕ)) → ((x : ℕ) → count x items ≤ count x (concat bins)) → (places : List ℕ) × IsWithin bins items places
assigned [] bins fewer = (
  [],
  record {
    one_each = refl;
    in_range = All-nil (λ place. place < length bins);
    totals = λ bin. omega arith;
  },
)
assigned (item ∷ items) bins fewer =
    let some : 0 < count item (concat bins) = omega (arith, fewer item, count_this item item (count item items) refl) in
    let taken = without_here item bins some in
    let r = assigned items taken.0 (λ x. omega (arith, fewer x, taken.2.counts x)) in (
      taken.1 ∷ r.0,
      record {
        one_each = ap suc r.1.one_each;
        in_range = All-cons (λ place. place < length bins) taken.1 r.0 taken.2.in_range (subst (λ n. All (λ place. place < n) r.0) taken.2.one_each r.1.in_range);
        totals = totals_with item taken.1 items r.0 bins taken.0 taken.2 r.1.totals;
      },
    )

-- a list of items that stand in bins of at most the capacity is packable
pub Packable-from_bins : (game : GameNumbers) (bins : List (List ℕ)) (items : List ℕ) → All (IsSize game.capacity) items → length bins ≡ game.bins
    → All (λ bin. sum bin ≤ game.capacity) bins → ((x : ℕ) → count x items ≤ count x (concat bins)) → Packable game items
Packable-from_bins game bins items sizes one_each fits fewer =
    let r = assigned items bins fewer in (
      r.0,
      record {
        item_list = sizes;
        one_each = r.1.one_each;
        of_game = subst (λ n. All (λ place. place < n) r.0) one_each r.1.in_range;
        fits = λ bin l. omega (arith, r.1.totals bin, All-get_or (λ bin. sum bin ≤ game.capacity) bins bin [] (omega (arith, l, one_each)) fits);
      },
    )

pub Packable-from_packing : (game : GameNumbers) (bins : List (List ℕ)) (items : List ℕ) → All (IsSize game.capacity) items → IsPacking game bins items → Packable game items
Packable-from_packing game bins items sizes p =
    Packable-from_bins game bins items sizes p.one_each p.fits (λ x. omega (arith, p.together x))

pub packing-from_Packable : (game : GameNumbers) (items : List ℕ) → Packable game items → (bins : List (List ℕ)) × IsPacking game bins items
packing-from_Packable game items p = (contents_of items p.0 game.bins, IsPacking-contents game items p.0 p.1)

-- a list that has no item more often than a packable one is packable
pub Packable-part : (game : GameNumbers) (part items : List ℕ) → ((x : ℕ) → count x part ≤ count x items) → Packable game items → Packable game part
Packable-part game part items fewer p =
    let packing = packing-from_Packable game items p in
    let sizes : All (IsSize game.capacity) part = all_from_counts (IsSize game.capacity) part
    (λ x some. at_count (IsSize game.capacity) x items p.1.item_list (omega (arith, some, fewer x))) in
    Packable-from_bins game packing.0 part sizes packing.1.one_each packing.1.fits (λ x. omega (arith, fewer x, packing.1.together x))

pub Packable-Same : (game : GameNumbers) (xs ys : List ℕ) → Same xs ys → Packable game xs → Packable game ys
Packable-Same game xs ys s p = Packable-part game ys xs (λ x. omega (arith, s x)) p

count-sublist : (part items : List ℕ) → IsSublistOf part items → (x : ℕ) → count x part ≤ count x items
count-sublist [] [] empty x = omega arith
count-sublist (item ∷ part) [] s x = elim s [ ]
count-sublist (item ∷ part) (item' ∷ items) (kept item'' part' items' s) x = omega (arith, count-sublist part items s x)
count-sublist part (item ∷ items) (left_out item' part' items' s) x = omega (arith, count-sublist part items s x)

pub Packable-sublist : (game : GameNumbers) (part items : List ℕ) → IsSublistOf part items → Packable game items → Packable game part
Packable-sublist game part items s p = Packable-part game part items (count-sublist part items s) p

-- no items are packable
pub Packable-nil : (game : GameNumbers) → Packable game []
Packable-nil game = ([], IsAssignment-nil game)

-- without the items at the end, or without the last one
pub Packable-front : (game : GameNumbers) (front back : List ℕ) → Packable game (front ++ back) → Packable game front
Packable-front game front back p = Packable-part game front (front ++ back) (λ x. omega (arith, count-append x front back)) p

pub Packable-prefix : (game : GameNumbers) (items : List ℕ) (item : ℕ) → Packable game (items ++ item ∷ []) → Packable game items
Packable-prefix game items item p = Packable-front game items (item ∷ []) p

-- an item at the end, or put in at its place in an ascending list
pub Packable-put_ascending : (game : GameNumbers) (items : List ℕ) (item : ℕ) → Packable game (items ++ item ∷ []) → Packable game (put_ascending item items)
Packable-put_ascending game items item p = Packable-Same game (items ++ item ∷ []) (put_ascending item items) (Same-push_put item items) p

pub Packable-from_put_ascending : (game : GameNumbers) (items : List ℕ) (item : ℕ) → Packable game (put_ascending item items) → Packable game (items ++ item ∷ [])
Packable-from_put_ascending game items item p = Packable-Same game (put_ascending item items) (items ++ item ∷ []) (λ x. sym (Same-push_put item items x)) p

-- one item replaced by a smaller one
total_smaller : (before after places : List ℕ) (larger smaller : ℕ) → smaller ≤ larger → (bin : ℕ)
    → bin_total bin (before ++ smaller ∷ after) places ≤ bin_total bin (before ++ larger ∷ after) places
total_smaller [] after [] larger smaller le bin = omega arith
total_smaller [] after (place ∷ places) larger smaller le bin = elim (cases_eq bin place) [
  | inl e ↦ omega (arith, bin_total_this bin place smaller after places e, bin_total_this bin place larger after places e)
  | inr ne ↦ omega (arith, bin_total_other bin place smaller after places ne, bin_total_other bin place larger after places ne)
]
total_smaller (x ∷ before) after [] larger smaller le bin = omega arith
total_smaller (x ∷ before) after (place ∷ places) larger smaller le bin = omega (arith, total_smaller before after places larger smaller le bin)

sizes_smaller : (most : ℕ) (before after : List ℕ) (larger smaller : ℕ) → 1 ≤ smaller → smaller ≤ larger → All (IsSize most) (before ++ larger ∷ after)
    → All (IsSize most) (before ++ smaller ∷ after)
sizes_smaller most [] after larger smaller some le all =
    let size = All-head (IsSize most) larger after all in
    All-cons (IsSize most) smaller after (record { low = some; high = omega (arith, size.high) }) (All-tail (IsSize most) larger after all)
sizes_smaller most (x ∷ before) after larger smaller some le all =
    All-cons (IsSize most) x (before ++ smaller ∷ after) (All-head (IsSize most) x (before ++ larger ∷ after) all)
    (sizes_smaller most before after larger smaller some le (All-tail (IsSize most) x (before ++ larger ∷ after) all))

pub Packable-smaller : (game : GameNumbers) (before after : List ℕ) (larger smaller : ℕ) → 1 ≤ smaller → smaller ≤ larger → Packable game (before ++ larger ∷ after)
    → Packable game (before ++ smaller ∷ after)
Packable-smaller game before after larger smaller some le p = (
  p.0,
  record {
    item_list = sizes_smaller game.capacity before after larger smaller some le p.1.item_list;
    one_each = omega (arith, p.1.one_each, length-append before (larger ∷ after), length-append before (smaller ∷ after));
    of_game = p.1.of_game;
    fits = λ bin l. omega (arith, p.1.fits bin l, total_smaller before after p.0 larger smaller le bin);
  },
)

pub Packable-smaller_last : (game : GameNumbers) (items : List ℕ) (larger smaller : ℕ) → 1 ≤ smaller → smaller ≤ larger → Packable game (items ++ larger ∷ [])
    → Packable game (items ++ smaller ∷ [])
Packable-smaller_last game items larger smaller some le p = Packable-smaller game items [] larger smaller some le p

-- sums over lists that are joined
pub sum_by-concat : (f : ℕ → ℕ) (xss : List (List ℕ)) → sum_by f (concat xss) ≡ sum_by (sum_by f) xss
sum_by-concat f [] = refl
sum_by-concat f (xs ∷ xss) =
    omega (arith, sum_by-append f xs (concat xss), sum_by-concat f xss, sum_by-cons (sum_by f) xs xss)

pub sum-packing-le : (game : GameNumbers) (bins : List (List ℕ)) (items : List ℕ) → IsPacking game bins items → sum items ≤ game.bins * game.capacity
sum-packing-le game bins items p =
    let most = sum_by-le sum game.capacity bins p.fits in
    let most' = subst (λ n. sum_by sum bins ≤ n * game.capacity) p.one_each most in
    omega (arith, most', sum_by-concat (λ n. n) bins, sum-Same (concat bins) items p.together)

pub sum-Packable-le : (game : GameNumbers) (items : List ℕ) → Packable game items → sum items ≤ game.bins * game.capacity
sum-Packable-le game items p = let packing = packing-from_Packable game items p in sum-packing-le game packing.0 items packing.1

-- a bin has at most one item above half the capacity
big_this : (capacity x : ℕ) (xs : List ℕ) → capacity < 2 * x → count_by (is_big capacity) (x ∷ xs) ≡ 1 + count_by (is_big capacity) xs
big_this capacity x xs l =
    omega (arith, sum_by-cons (λ y. cond (is_big capacity y) 1 0) x xs, cond-true {A = ℕ} (is_big capacity x) 1 0 (lt-ltb capacity (2 * x) l))

big_other : (capacity x : ℕ) (xs : List ℕ) → 2 * x ≤ capacity → count_by (is_big capacity) (x ∷ xs) ≡ count_by (is_big capacity) xs
big_other capacity x xs l =
    omega (arith, sum_by-cons (λ y. cond (is_big capacity y) 1 0) x xs, cond-false {A = ℕ} (is_big capacity x) 1 0 (le-ltb capacity (2 * x) l))

none_big : (capacity : ℕ) (xs : List ℕ) → 2 * sum xs ≤ capacity → count_by (is_big capacity) xs ≡ 0
none_big capacity [] l = refl
none_big capacity (x ∷ xs) l =
    let total = sum_by-cons (λ n. n) x xs in
    big_other capacity x xs (omega (arith, l, total)) ∙ none_big capacity xs (omega (arith, l, total))

one_big : (capacity : ℕ) (xs : List ℕ) → sum xs ≤ capacity → count_by (is_big capacity) xs ≤ 1
one_big capacity [] l = omega arith
one_big capacity (x ∷ xs) l =
    let total = sum_by-cons (λ n. n) x xs in
    elim (cases_lt capacity (2 * x)) [
      | inl big ↦ omega (arith, big_this capacity x xs big, none_big capacity xs (omega (arith, l, total, big)))
      | inr small ↦ omega (arith, big_other capacity x xs small, one_big capacity xs (omega (arith, l, total)))
    ]

pub count_big-Packable-le : (game : GameNumbers) (items : List ℕ) → Packable game items → count_by (is_big game.capacity) items ≤ game.bins
count_big-Packable-le game items p =
    let packing = packing-from_Packable game items p in
    let one : All (λ bin. count_by (is_big game.capacity) bin ≤ 1) packing.0 = All-weaker (λ bin. sum bin ≤ game.capacity)
    (λ bin. count_by (is_big game.capacity) bin ≤ 1) (one_big game.capacity) packing.0 packing.1.fits in
    let most = sum_by-le (count_by (is_big game.capacity)) 1 packing.0 one in
    omega (
      arith,
      most,
      packing.1.one_each,
      sum_by-concat (λ y. cond (is_big game.capacity y) 1 0) packing.0,
      sum_by-Same (λ y. cond (is_big game.capacity y) 1 0) (concat packing.0) items packing.1.together,
    )

-- a packing of items is one of any list with the same items
pub IsPacking-Same : (game : GameNumbers) (bins : List (List ℕ)) (xs ys : List ℕ) → Same xs ys → IsPacking game bins xs → IsPacking game bins ys
IsPacking-Same game bins xs ys s p = record { one_each = p.one_each; fits = p.fits; together = λ x. p.together x ∙ s x }
