-- What a kept order keeps while items come: every load stays below the target.
use Rattle.std.proofs.Common.{◌≡◌, ◌≢◌, ℕ, zero, suc, ◌+◌, ◌-◌, ◌*◌, ◌/◌, ◌<◌, ◌≤◌, max, false, cond, eqb, ltb, List, [], ◌∷◌, ◌++◌, length}
use Rattle.std.proofs.Common.{get_or, set, take, drop, map, refl, sym, ap, ◌∙◌, inl, inr, subst, arith}
use Rattle.std.specs.Prelude.{All, sum, ◌⊎◌, count_by}
use Rattle.std.specs.List.{sum_by, range_with_len}
use Rattle.std.proofs.lemmas.Bool.{cases_Bool, cases_eq, ltb-true, ltb-false, cond-true, cond-false}
use Rattle.std.proofs.lemmas.List.{length-set, length-drop, drop_all, get_or-set_same, get_or-set_other, take-map, drop-map}
use Rattle.std.proofs.lemmas.List.Sums.{sum_by-cons, sum_by-append, sum_by-set, sum_by-le-sum_by, sum_by-take-drop, sum_by-drop_more}
use Rattle.std.proofs.lemmas.List.Elements.{All-head, All-tail, All-get_or, All-set, All-drop, All-weaker}
use Rattle.items.specs.Game.{GameNumbers}
use Rattle.items.specs.Multiset.{count, Same, IsSize, is_big}
use Rattle.items.proofs.MultisetLemmas.{count_this, count_other, count-sum_by, sum_by-Same, sum-Same, length-Same}
use Rattle.items.specs.Packable.{Packable}
use Rattle.loads.specs.Descending.{IsDescending}
use Rattle.loads.specs.Loads.{IsLoads, loads_after}
use Rattle.loads.proofs.LoadsLemmas.{length-loads_after, loads_after-rises}
use Rattle.packing_witness.proofs.PackableLemmas.{all_from_counts, at_count, sum-Packable-le, count_big-Packable-le}
use Rattle.good_situations.specs.Laws.{IsPlayed, FinishStaysBelowTarget, BigFinishStaysBelowTarget, FinishesAfterEachItem}
use Rattle.good_situations.specs.KeptOrder.{KeptOrder, ordered_bins, kept_order, IsOrderOf, finish_bin}
use Rattle.good_situations.specs.KeptPlays.{with_item, loads_under_finish, loads_under_big}
use Rattle.good_situations.proofs.ListLemmas.{sum_by-map, All-from_map, sum_by-le-terms, find_cases, IsFound, IsDefault}
use Rattle.good_situations.proofs.OrderLemmas.{finish_bin-lt, sum_by-bins, Same-ordered_bins, length-ordered_bins, loads_in_order, IsOrderOf-kept_order}

-- the parts of an order are the bins of the game, each once
pub record IsSplit (bins : ℕ) (first : List ℕ) (next : ℕ) (last : List ℕ) : Type 0 where
  pub sums : (f : ℕ → ℕ) → sum_by f first + f next + sum_by f last ≡ sum_by f (range_with_len 0 bins)

-- at the loads at the start, the bins cover what the bins hold offline, but for the next bin
pub record CoversAt (game : GameNumbers) (start first last : List ℕ) (most : ℕ) : Type 0 where
  pub total : game.bins * game.capacity ≤ sum_by (λ bin. max (get_or start bin 0) (game.target - most)) first + sum_by (λ bin. get_or start bin 0) last + (game.target - 1)

-- what stays so while items come
pub record Keeps (game : GameNumbers) (start actual : List ℕ) (order : KeptOrder) : Type 0 where
  pub one_each : length actual ≡ game.bins
  pub below : All (λ load. load < game.target) actual
  pub rising : (bin : ℕ) → get_or start bin 0 ≤ get_or actual bin 0
  pub of_game : IsOrderOf game.bins order
  pub apart : (bin : ℕ) → count bin order.first + cond (eqb bin order.next) 1 0 + count bin order.reserved ≤ 1
  pub takes_any : (bin : ℕ) → 0 < count bin order.reserved → get_or actual bin 0 + game.capacity < game.target

-- an item of at most so much stays below the target in the bin that is named for it
lower_terms : (game : GameNumbers) (start actual : List ℕ) (most size bin : ℕ) → size ≤ most → get_or start bin 0 ≤ get_or actual bin 0
    → ltb (get_or actual bin 0 + size) game.target ≡ false
    → max (get_or start bin 0) (game.target - most) ≤ get_or actual bin 0
lower_terms game start actual most size bin le rise e = let past = ltb-false (get_or actual bin 0 + size) game.target e in omega arith

total_of_bins : (actual first last : List ℕ) (next bins : ℕ) → length actual ≡ bins → IsSplit bins first next last
    → sum_by (λ bin. get_or actual bin 0) first + get_or actual next 0 + sum_by (λ bin. get_or actual bin 0) last ≡ sum actual
total_of_bins actual first last next bins len split =
    split.sums (λ bin. get_or actual bin 0) ∙ ap (λ n. sum_by (λ bin. get_or actual bin 0) (range_with_len 0 n)) (sym len) ∙ sym (sum_by-bins (λ load. load) actual)

next_stays_below : (game : GameNumbers) (start actual : List ℕ) (order : KeptOrder) (last : List ℕ) (most size : ℕ)
    → Keeps game start actual order → IsSplit game.bins order.first order.next last → CoversAt game start order.first last most
    → size ≤ most → sum actual + size ≤ game.bins * game.capacity → 0 < game.target
    → All (λ bin. ltb (get_or actual bin 0 + size) game.target ≡ false) order.first → get_or actual order.next 0 + size < game.target
next_stays_below game start actual order last most size k split covers le fits some full =
    let terms = sum_by-le-terms (λ bin. max (get_or start bin 0) (game.target - most)) (λ bin. get_or actual bin 0) order.first
    (All-weaker (λ bin. ltb (get_or actual bin 0 + size) game.target ≡ false) (λ bin. max (get_or start bin 0) (game.target - most) ≤ get_or actual bin 0)
    (λ bin e. lower_terms game start actual most size bin le (k.rising bin) e) order.first full) in
    let lasts = sum_by-le-sum_by (λ bin. get_or start bin 0) (λ bin. get_or actual bin 0) last k.rising in
    let total = total_of_bins actual order.first last order.next game.bins k.one_each split in
    omega (arith, covers.total, terms, lasts, total, fits)

-- the bin that is named for an item that no bin is reserved for
pub record IsGoodBin (game : GameNumbers) (actual : List ℕ) (order : KeptOrder) (size bin : ℕ) : Type 0 where
  pub below : get_or actual bin 0 + size < game.target
  pub not_reserved : count bin order.reserved ≡ 0

good_bin : (game : GameNumbers) (start actual : List ℕ) (order : KeptOrder) (last : List ℕ) (most size bin : ℕ)
    → Keeps game start actual order → IsSplit game.bins order.first order.next last → CoversAt game start order.first last most
    → size ≤ most → sum actual + size ≤ game.bins * game.capacity → 0 < game.target
    → IsFound (λ b. ltb (get_or actual b 0 + size) game.target) order.first bin ⊎ IsDefault (λ b. ltb (get_or actual b 0 + size) game.target) order.first order.next bin
    → IsGoodBin game actual order size bin
good_bin game start actual order last most size bin k split covers le fits some (inl h) = record {
  below = ltb-true (get_or actual bin 0 + size) game.target h.passes;
  not_reserved = omega (arith, h.member, k.apart bin);
}
good_bin game start actual order last most size bin k split covers le fits some (inr h) =
    subst (λ b. IsGoodBin game actual order size b) (sym h.is) (record {
      below = next_stays_below game start actual order last most size k split covers le fits some h.fail;
      not_reserved = omega (arith, k.apart order.next, count_this order.next order.next 0 refl);
    })

-- what a write of a load keeps
rising_set : (start actual : List ℕ) (bin size : ℕ) → bin < length actual → ((b : ℕ) → get_or start b 0 ≤ get_or actual b 0)
    → (b : ℕ) → get_or start b 0 ≤ get_or (set actual bin (get_or actual bin 0 + size)) b 0
rising_set start actual bin size within rise b = elim (cases_eq b bin) [
  | inl e ↦ subst (λ z. get_or start z 0 ≤ get_or (set actual bin (get_or actual bin 0 + size)) z 0) (sym e)
      (omega (arith, rise bin, get_or-set_same actual bin (get_or actual bin 0 + size) 0 within))
  | inr ne ↦ omega (arith, rise b, get_or-set_other actual bin b (get_or actual bin 0 + size) 0 ne)
]

other_bin : (bin b : ℕ) (xs : List ℕ) → count bin xs ≡ 0 → 0 < count b xs → b ≢ bin
other_bin bin b xs none some e = omega (arith, none, some, ap (λ z. count z xs) e)

Keeps-with_item : (game : GameNumbers) (start actual : List ℕ) (order order' : KeptOrder) (bin size : ℕ)
    → Keeps game start actual order → bin < game.bins → get_or actual bin 0 + size < game.target
    → IsOrderOf game.bins order' → ((b : ℕ) → count b order'.first + cond (eqb b order'.next) 1 0 + count b order'.reserved ≤ 1)
    → count bin order'.reserved ≡ 0 → ((b : ℕ) → count b order'.reserved ≤ count b order.reserved)
    → Keeps game start (with_item actual bin size) order'
Keeps-with_item game start actual order order' bin size k within below of apart none fewer = record {
  one_each = length-set actual bin (get_or actual bin 0 + size) ∙ k.one_each;
  below = All-set (λ load. load < game.target) actual bin (get_or actual bin 0 + size) below k.below;
  rising = rising_set start actual bin size (omega (arith, within, k.one_each)) k.rising;
  of_game = of;
  apart = apart;
  takes_any = λ b some. omega (
    arith,
    k.takes_any b (omega (arith, some, fewer b)),
    get_or-set_other actual bin b (get_or actual bin 0 + size) 0
        (other_bin bin b order'.reserved none some),
  );
}

sum-with_item : (actual : List ℕ) (bin size : ℕ) → bin < length actual → sum (with_item actual bin size) ≡ sum actual + size
sum-with_item actual bin size within = omega (arith, sum_by-set (λ load. load) actual bin (get_or actual bin 0 + size) 0 within)

-- an item that no bin is reserved for
small_step : (game : GameNumbers) (start actual : List ℕ) (order : KeptOrder) (last : List ℕ) (most size : ℕ)
    → Keeps game start actual order → IsSplit game.bins order.first order.next last → CoversAt game start order.first last most
    → size ≤ most → sum actual + size ≤ game.bins * game.capacity → 0 < game.target
    → Keeps game start (with_item actual (finish_bin game order actual size) size) order
small_step game start actual order last most size k split covers le fits some =
    let bin : ℕ = finish_bin game order actual size in
    let good : IsGoodBin game actual order size bin = good_bin game start actual order last most size bin k split covers le fits some
    (find_cases (λ b. ltb (get_or actual b 0 + size) game.target) order.first order.next) in
    Keeps-with_item game start actual order order bin size k
    (finish_bin-lt game order actual size game.bins k.of_game) good.below k.of_game k.apart good.not_reserved (λ b. omega arith)

-- under an order kept at `finish`
pub finish_keeps : (game : GameNumbers) (start : List ℕ) (order : KeptOrder) (last sizes actual : List ℕ) → 0 < game.target
    → IsSplit game.bins order.first order.next last → CoversAt game start order.first last game.capacity
    → Keeps game start actual order → sum actual + sum sizes ≤ game.bins * game.capacity → All (IsSize game.capacity) sizes
    → All (λ load. load < game.target) (loads_under_finish game order actual sizes)
finish_keeps game start order last [] actual some split covers k fits all = k.below
finish_keeps game start order last (size ∷ sizes) actual some split covers k fits all =
    let size_of = All-head (IsSize game.capacity) size sizes all in
    let bin : ℕ = finish_bin game order actual size in
    let within : bin < length actual = omega (arith, finish_bin-lt game order actual size game.bins k.of_game, k.one_each) in
    let more = sum_by-cons (λ n. n) size sizes in
    let k' = small_step game start actual order last game.capacity size k split covers size_of.high (omega (arith, fits, more)) some in
    finish_keeps game start order last sizes (with_item actual bin size) some split covers k'
    (omega (arith, fits, more, sum-with_item actual bin size within)) (All-tail (IsSize game.capacity) size sizes all)

-- the first of the reserved bins
count_first : (x : ℕ) (xs : List ℕ) → 0 < length xs → count x xs ≡ cond (eqb x (get_or xs 0 0)) 1 0 + count x (drop 1 xs)
count_first x [] some = absurd (omega (arith, some))
count_first x (y ∷ ys) some = refl

length-drop_one : (xs : List ℕ) → 0 < length xs → length (drop 1 xs) + 1 ≡ length xs
length-drop_one [] some = absurd (omega (arith, some))
length-drop_one (x ∷ xs) some = omega arith

big_step : (game : GameNumbers) (start actual : List ℕ) (order : KeptOrder) (size : ℕ)
    → Keeps game start actual order → 0 < length order.reserved → size ≤ game.capacity
    → Keeps game start (with_item actual (get_or order.reserved 0 0) size) (record order { reserved = drop 1 order.reserved })
big_step game start actual order size k some le =
    let bin : ℕ = get_or order.reserved 0 0 in
    let counts : (x : ℕ) → count x order.reserved ≡ cond (eqb x bin) 1 0 + count x (drop 1 order.reserved) = λ x. count_first x order.reserved some in
    let this = count_this bin bin (count bin (drop 1 order.reserved)) refl in
    let none : count bin (drop 1 order.reserved) ≡ 0 = omega (arith, counts bin, this, k.apart bin) in
    let below : get_or actual bin 0 + size < game.target = omega (arith, k.takes_any bin (omega (arith, counts bin, this)), le) in
    Keeps-with_item game start actual order (record order { reserved = drop 1 order.reserved }) bin size k
    (All-get_or (λ b. b < game.bins) order.reserved 0 0 some k.of_game.reserved) below
    (record { first = k.of_game.first; next = k.of_game.next; reserved = All-drop (λ b. b < game.bins) 1 order.reserved k.of_game.reserved })
    (λ b. omega (arith, k.apart b, counts b)) none (λ b. omega (arith, counts b))

-- under an order kept at `big`
pub big_keeps : (game : GameNumbers) (start last sizes actual : List ℕ) (order : KeptOrder) → 0 < game.target
    → IsSplit game.bins order.first order.next last → CoversAt game start order.first last (game.capacity / 2)
    → Keeps game start actual order → sum actual + sum sizes ≤ game.bins * game.capacity → All (IsSize game.capacity) sizes
    → count_by (is_big game.capacity) sizes ≤ length order.reserved
    → All (λ load. load < game.target) (loads_under_big game order actual sizes)
big_keeps game start last [] actual order some split covers k fits all enough = k.below
big_keeps game start last (size ∷ sizes) actual order some split covers k fits all enough =
    let size_of = All-head (IsSize game.capacity) size sizes all in
    let more = sum_by-cons (λ n. n) size sizes in
    let bigs = sum_by-cons (λ y. cond (is_big game.capacity y) 1 0) size sizes in
    elim (cases_Bool (is_big game.capacity size)) [
      | inl e ↦ rw e (
          let one = cond-true {A = ℕ} (is_big game.capacity size) 1 0 e in
          let left : 0 < length order.reserved = omega (arith, enough, bigs, one) in
          let bin : ℕ = get_or order.reserved 0 0 in
          let within : bin < length actual = omega (arith, All-get_or (λ b. b < game.bins) order.reserved 0 0 left k.of_game.reserved, k.one_each) in
          big_keeps game start last sizes (with_item actual bin size) (record order { reserved = drop 1 order.reserved }) some split covers
          (big_step game start actual order size k left size_of.high) (omega (arith, fits, more, sum-with_item actual bin size within))
          (All-tail (IsSize game.capacity) size sizes all)
          (omega (arith, enough, bigs, one, length-drop_one order.reserved left)))
      | inr e ↦ rw e (
          let none = cond-false {A = ℕ} (is_big game.capacity size) 1 0 e in
          let half : size ≤ game.capacity / 2 = omega (arith, ltb-false game.capacity (2 * size) e) in
          let bin : ℕ = finish_bin game order actual size in
          let within : bin < length actual = omega (arith, finish_bin-lt game order actual size game.bins k.of_game, k.one_each) in
          big_keeps game start last sizes (with_item actual bin size) order some split covers
          (small_step game start actual order last (game.capacity / 2) size k split covers half (omega (arith, fits, more)) some)
          (omega (arith, fits, more, sum-with_item actual bin size within)) (All-tail (IsSize game.capacity) size sizes all)
          (omega (arith, enough, bigs, none)))
    ]

-- the order at the start
IsSplit-kept_order : (game : GameNumbers) (actual : List ℕ) (reserved : ℕ) → length actual ≡ game.bins → reserved + 1 ≤ game.bins
    → IsSplit game.bins (kept_order game actual reserved).first (kept_order game actual reserved).next (kept_order game actual reserved).reserved
IsSplit-kept_order game actual reserved len some = record {
  sums = λ f.
      let order : List ℕ = ordered_bins actual in
      let n : ℕ = game.bins - reserved - 1 in
      let e : n + 1 ≡ game.bins - reserved = omega arith in
      let from = sum_by-drop_more f order n 0 (omega (arith, length-ordered_bins actual, len)) in
      omega (
        arith,
        sum_by-take-drop f order n,
        from,
        ap (λ j. sum_by f (drop j order)) e,
        sum_by-Same f order (range_with_len 0 (length actual)) (Same-ordered_bins actual),
        ap (λ l. sum_by f (range_with_len 0 l)) len,
      );
}

count_below_range : (x a n : ℕ) → x < a → count x (range_with_len a n) ≡ 0
count_below_range x a zero l = refl
count_below_range x a (suc n) l =
    omega (arith, count_below_range x (a + 1) n (omega arith), count_other x a (count x (range_with_len (a + 1) n)) (λ e. omega (arith, e, l)))

count_range-le : (x a n : ℕ) → count x (range_with_len a n) ≤ 1
count_range-le x a zero = omega arith
count_range-le x a (suc n) = elim (cases_eq x a) [
  | inl e ↦ omega (arith, count_this x a (count x (range_with_len (a + 1) n)) e, count_below_range x (a + 1) n (omega (arith, e)))
  | inr ne ↦ omega (arith, count_other x a (count x (range_with_len (a + 1) n)) ne, count_range-le x (a + 1) n)
]

Keeps-start : (game : GameNumbers) (loads actual : List ℕ) (reserved : ℕ) → IsLoads game loads → Same actual loads → reserved + 1 ≤ game.bins
    → ((bin : ℕ) → 0 < count bin (kept_order game actual reserved).reserved → get_or actual bin 0 + game.capacity < game.target)
    → Keeps game actual actual (kept_order game actual reserved)
Keeps-start game loads actual reserved legal same some any =
    let len : length actual ≡ game.bins = length-Same actual loads same ∙ legal.one_each in
    let order : KeptOrder = kept_order game actual reserved in
    record {
      one_each = len;
      below = all_from_counts (λ load. load < game.target) actual (λ x here. at_count (λ load. load < game.target) x loads legal.below_target (omega (arith, here, same x)));
      rising = λ bin. omega arith;
      of_game = IsOrderOf-kept_order game actual reserved len some;
      apart = λ bin. omega (
        arith,
        (IsSplit-kept_order game actual reserved len some).sums (λ y. cond (eqb bin y) 1 0),
        count-sum_by bin order.first,
        count-sum_by bin order.reserved,
        count-sum_by bin (range_with_len 0 game.bins),
        count_range-le bin 0 game.bins,
      );
      takes_any = any;
    }

-- sums over the first loads and the last ones are sums over the first bins and the last ones
first_in_order : (f : ℕ → ℕ) (actual loads : List ℕ) (n : ℕ) → IsDescending loads → Same actual loads
    → sum_by f (take n loads) ≡ sum_by (λ b. f (get_or actual b 0)) (take n (ordered_bins actual))
first_in_order f actual loads n d s =
    ap (λ ls. sum_by f (take n ls)) (sym (loads_in_order actual loads d s)) ∙ ap (sum_by f) (take-map (λ b. get_or actual b 0) n (ordered_bins actual))
    ∙ sum_by-map f (λ b. get_or actual b 0) (take n (ordered_bins actual))

last_in_order : (actual loads : List ℕ) (n : ℕ) → IsDescending loads → Same actual loads
    → drop n loads ≡ map (λ b. get_or actual b 0) (drop n (ordered_bins actual))
last_in_order actual loads n d s =
    ap (drop n) (sym (loads_in_order actual loads d s)) ∙ drop-map (λ b. get_or actual b 0) n (ordered_bins actual)

All-append_right : (P : ℕ → Type 0) (xs ys : List ℕ) → All P (xs ++ ys) → All P ys
All-append_right P [] ys all = all
All-append_right P (x ∷ xs) ys all = All-append_right P xs ys (All-tail P x (xs ++ ys) all)

-- the items to come fit beside the loads
fits_beside : (game : GameNumbers) (loads items actual more : List ℕ) → IsPlayed game loads items actual → Packable game (items ++ more)
    → sum actual + sum more ≤ game.bins * game.capacity
fits_beside game loads items actual more played p =
    omega (arith, sum-Packable-le game (items ++ more) p, sum_by-append (λ n. n) items more, played.total, sum-Same actual loads played.renamed)

pub finish_stays_below : FinishStaysBelowTarget
finish_stays_below game loads items actual more g played finishes p =
    let order : KeptOrder = kept_order game actual 0 in
    let len : length actual ≡ game.bins = length-Same actual loads played.renamed ∙ played.legal.one_each in
    let some : 0 + 1 ≤ game.bins = omega (arith, g.bins.low) in
    let floor : ℕ = game.target - game.capacity in
    let e : game.bins - 0 - 1 ≡ game.bins - 1 = omega arith in
    let covers : CoversAt game actual order.first order.reserved game.capacity = record {
      total =
          omega (
            arith,
            finishes,
            first_in_order (λ load. max load floor) actual loads (game.bins - 1) played.legal.descending played.renamed,
            ap (λ n. sum_by (λ b. max (get_or actual b 0) floor) (take n (ordered_bins actual))) e,
          );
    } in
    let none : order.reserved ≡ [] = drop_all (game.bins - 0) (ordered_bins actual) (omega (arith, length-ordered_bins actual, len)) in
    finish_keeps game actual order order.reserved more actual (omega (arith, g.target.low)) (IsSplit-kept_order game actual 0 len some) covers
    (Keeps-start game loads actual 0 played.legal played.renamed some (λ bin here. absurd (omega (arith, here, ap (count bin) none))))
    (fits_beside game loads items actual more played p) (All-append_right (IsSize game.capacity) items more p.1.item_list)

pub big_finish_stays_below : BigFinishStaysBelowTarget
big_finish_stays_below game loads items actual more reserved g played finishes p =
    let order : KeptOrder = kept_order game actual reserved in
    let len : length actual ≡ game.bins = length-Same actual loads played.renamed ∙ played.legal.one_each in
    let some : reserved + 1 ≤ game.bins = omega (arith, g.bins.low, finishes.some_left) in
    let floor : ℕ = game.target - game.capacity / 2 in
    let from : ℕ = game.bins - reserved in
    let last = last_in_order actual loads from played.legal.descending played.renamed in
    let covers : CoversAt game actual order.first order.reserved (game.capacity / 2) = record {
      total =
          omega (
            arith,
            finishes.covers,
            first_in_order (λ load. max load floor) actual loads (from - 1) played.legal.descending played.renamed,
            ap sum last,
            sum_by-map (λ n. n) (λ b. get_or actual b 0) order.reserved,
          );
    } in
    let any : All (λ bin. get_or actual bin 0 + game.capacity < game.target) order.reserved =
    All-from_map (λ load. load + game.capacity < game.target) (λ b. get_or actual b 0) order.reserved
    (subst (All (λ load. load + game.capacity < game.target)) last finishes.takes_any) in
    big_keeps game actual order.reserved more actual order (omega (arith, g.target.low)) (IsSplit-kept_order game actual reserved len some) covers
    (Keeps-start game loads actual reserved played.legal played.renamed some
    (λ bin here. at_count (λ b. get_or actual b 0 + game.capacity < game.target) bin order.reserved any here))
    (fits_beside game loads items actual more played p) (All-append_right (IsSize game.capacity) items more p.1.item_list)
    (omega (
      arith,
      count_big-Packable-le game (items ++ more) p,
      sum_by-append (λ y. cond (is_big game.capacity y) 1 0) items more,
      finishes.enough,
      length-drop from (ordered_bins actual),
      length-ordered_bins actual,
      len,
      some,
    ))

-- sums over the first places rise with the places
take_rises : (f : ℕ → ℕ) (xs ys : List ℕ) (n : ℕ) → ((x y : ℕ) → x ≤ y → f x ≤ f y) → length xs ≡ length ys → ((k : ℕ) → get_or xs k 0 ≤ get_or ys k 0)
    → sum_by f (take n xs) ≤ sum_by f (take n ys)
take_rises f xs ys zero mono len rise = omega arith
take_rises f [] ys (suc n) mono len rise = omega arith
take_rises f (x ∷ xs) [] (suc n) mono len rise = absurd (omega (arith, len))
take_rises f (x ∷ xs) (y ∷ ys) (suc n) mono len rise =
    omega (arith, sum_by-cons f x (take n xs), sum_by-cons f y (take n ys), mono x y (rise 0), take_rises f xs ys n mono (omega (arith, len)) (λ k. rise (suc k)))

pub finishes_after : FinishesAfterEachItem
finishes_after game loads load size legal member below finishes =
    let floor : ℕ = game.target - game.capacity in
    omega (
      arith,
      finishes,
      take_rises (λ l. max l floor) loads (loads_after loads load size) (game.bins - 1) (λ x y le. omega arith)
          (sym (length-loads_after loads load size member)) (loads_after-rises loads load size legal.descending member),
    )
