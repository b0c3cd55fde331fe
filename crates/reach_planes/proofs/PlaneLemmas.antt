-- Planes: which bits are set after an item.
use Rattle.std.specs.Prelude.{slice_index}
use Rattle.std.proofs.Common.{◌≡◌, ◌↔◌, ℕ, zero, suc, ◌+◌, ◌-◌, ◌*◌, ◌/◌, ◌%◌, ◌^◌, ◌<◌, ◌≤◌, List, [], ◌∷◌, ◌++◌}
use Rattle.std.proofs.Common.{length, get_or, set, take, drop, sum, sym, ap, ◌∙◌, subst, inl, inr, ◌⊎◌, ⊎_elim, arith}
use Rattle.std.proofs.lemmas.Bool.{cases_lt}
use Rattle.std.proofs.lemmas.List.{length-set, length-take-le}
use Rattle.std.proofs.lemmas.List.Sums.{sum_by-cons, sum_by-le, sum_by-append}
use Rattle.std.proofs.lemmas.List.Elements.{All-get_or, All-set, All-take}
use Rattle.std.proofs.lemmas.Nat.{mul-add-lt, mul-le, pow-add, mod-mul-add}
use Rattle.std.proofs.Math.Nat.{pow-succ', mul-le-mul_right, one-le-pow}
use Rattle.items.specs.Game.{GameNumbers, IsGame}
use Rattle.items.specs.Multiset.{IsSize}
use Rattle.reach_planes.specs.Words.{IsSet}
use Rattle.reach_planes.specs.Layout.{IsStart, IsPlace, IsKept, IsPutInFirst, IsPutInBin, IsPlaneOf, AreDigits}
use Rattle.reach_planes.specs.Layout.{AreDigitSums, word_at, row_of, rows_of, halves_of, digit_sum, held_total}
use Rattle.reach_planes.proofs.RowLemmas.{row_of-lt, row_of-split, row_of-lowered, digit_sum-row_of, pow-bound}
use Rattle.reach_planes.proofs.TotalsLemmas.{WentLast, WentTo, went_somewhere, IsStart-last, IsStart-to}

-- the place of the word for some digits
abbrev pub place_of : GameNumbers → ℕ → List ℕ → ℕ
place_of game half digits = word_at (rows_of game) half (row_of (game.capacity + 1) digits)

-- the digits spell one of the rows
pub row-lt : (game : GameNumbers) (digits : List ℕ) → AreDigits game digits → row_of (game.capacity + 1) digits < rows_of game
row-lt game digits d =
    subst (λ n. row_of (game.capacity + 1) digits < (game.capacity + 1) ^ n) (let e : length digits ≡ game.bins - 2 = omega (arith, d.one_each) in e)
    (row_of-lt game.capacity digits d.fit)

pub place-lt : (game : GameNumbers) (half : ℕ) (digits : List ℕ) → AreDigits game digits → half < halves_of game → place_of game half digits < halves_of game * rows_of game
place-lt game half digits d l =
    let p = mul-add-lt half (rows_of game) (row_of (game.capacity + 1) digits) (halves_of game) l (row-lt game digits d) in omega (arith, p)

-- some digits with one of them lowered
pub AreDigits-set : (game : GameNumbers) (digits : List ℕ) (k v : ℕ) → AreDigits game digits → v ≤ game.capacity → AreDigits game (set digits k v)
AreDigits-set game digits k v d l = record { one_each = omega (arith, length-set digits k v, d.one_each); fit = All-set (λ load. load ≤ game.capacity) digits k v l d.fit }

-- a plane's words after the first bins have had the item
abbrev pub CameFromBin : GameNumbers → ℕ → List ℕ → ℕ → ℕ → List ℕ → ℕ → Type 0
CameFromBin game s source half bit digits j = (s ≤ get_or digits j 0) × IsSet source (place_of game half (set digits j (get_or digits j 0 - s))) bit

pub record IsMoved (game : GameNumbers) (s bins : ℕ) (source before after : List ℕ) : Type 0 where
  pub exact : (half bit : ℕ) (digits : List ℕ) → AreDigits game digits → half < halves_of game → bit < 64
      → IsSet after (place_of game half digits) bit ↔ (IsSet before (place_of game half digits) bit ⊎ ((j : ℕ) × (j < bins) × CameFromBin game s source half bit digits j))

-- the place of a word by its block and the offset in it
pub record IsSplit (game : GameNumbers) (half k : ℕ) (digits : List ℕ) : Type 0 where
  pub block : ℕ
  pub offset : ℕ
  pub within : offset < (game.capacity + 1) * (game.capacity + 1) ^ k
  pub is : block * ((game.capacity + 1) * (game.capacity + 1) ^ k) + offset ≡ place_of game half digits
  pub digit : (size : ℕ) → (size * (game.capacity + 1) ^ k ≤ offset) ↔ (size ≤ get_or digits k 0)

split_parts : (base p low d high half wide rows : ℕ) → rows ≡ base * p * wide → (high + half * wide) * (base * p) + (low + d * p) ≡ half * rows + (low + p * (d + base * high))
split_parts base p low d high half wide rows e = omega (arith, ap (λ n. half * n) e)

at_digit : (p low d size : ℕ) → low < p → (size * p ≤ low + d * p) ↔ (size ≤ d)
at_digit p low d size l = (
  λ h. elim (cases_lt d size) [
    | inl over ↦
        let more : d + 1 ≤ size = omega arith in
        let m = mul-le-mul_right p more in absurd (omega (arith, m, h, l))
    | inr fit ↦ fit
  ],
  λ h. let m = mul-le-mul_right p h in omega (arith, m),
)

pub split_at : (game : GameNumbers) (half k : ℕ) (digits : List ℕ) → AreDigits game digits → k < length digits → IsSplit game half k digits
split_at game half k digits a l =
    let base : ℕ = game.capacity + 1 in
    let p : ℕ = (game.capacity + 1) ^ k in
    let low : ℕ = row_of (game.capacity + 1) (take k digits) in
    let high : ℕ = row_of (game.capacity + 1) (drop (suc k) digits) in
    let d : ℕ = get_or digits k 0 in
    let wide : ℕ = (game.capacity + 1) ^ (game.bins - 2 - (k + 1)) in
    let places : game.bins - 2 ≡ (k + 1) + (game.bins - 2 - (k + 1)) = omega (arith, a.one_each, l) in
    let rows : rows_of game ≡ (game.capacity + 1) * (game.capacity + 1) ^ k * wide = ap (λ n. (game.capacity + 1) ^ n) places
    ∙ pow-add (game.capacity + 1) (k + 1) (game.bins - 2 - (k + 1))
    ∙ ap (λ n. n * wide) (ap (λ n. (game.capacity + 1) ^ n) (let e : k + 1 ≡ suc k = omega arith in e) ∙ pow-succ' (game.capacity + 1) k) in
    let low_fits : low < p = subst (λ n. row_of (game.capacity + 1) (take k digits) < (game.capacity + 1) ^ n) (length-take-le k digits (omega (arith, l))) (row_of-lt game.capacity
    (take k digits) (All-take (λ load. load ≤ game.capacity) k digits a.fit)) in
    let d_fits : d ≤ game.capacity = All-get_or (λ load. load ≤ game.capacity) digits k 0 l a.fit in
    record {
      block = high + half * wide;
      offset = low + d * p;
      within = let m = mul-add-lt d p low (game.capacity + 1) (omega (arith, d_fits)) low_fits in omega (arith, m);
      is = split_parts (game.capacity + 1) p low d high half wide (rows_of game) rows ∙ ap (λ n. half * rows_of game + n) (sym (row_of-split (game.capacity + 1) k digits l));
      digit = λ size. at_digit p low d size low_fits;
    }

-- the place with one digit lowered
lowered_place : (game : GameNumbers) (half k size : ℕ) (digits : List ℕ) → k < length digits → size ≤ get_or digits k 0
    → place_of game half digits - size * (game.capacity + 1) ^ k ≡ place_of game half (set digits k (get_or digits k 0 - size))
lowered_place game half k size digits l le = omega (arith, row_of-lowered (game.capacity + 1) k size digits l le)

-- a bit that came from a bin up to one
came_by : (game : GameNumbers) (s k half bit : ℕ) (digits source before words : List ℕ) (i shifted offset : ℕ) → i ≡ place_of game half digits
    → (s ≤ get_or digits k 0 → shifted ≡ place_of game half (set digits k (get_or digits k 0 - s))) → (s ≤ get_or digits k 0 → s * (game.capacity + 1) ^ k ≤ offset)
    → (IsSet before (place_of game half digits) bit ⊎ ((j : ℕ) × (j < k) × CameFromBin game s source half bit digits j) → IsSet words (place_of game half digits) bit)
    → (j : ℕ) × (j < k + 1) × CameFromBin game s source half bit digits j
    → IsSet words i bit ⊎ ((s * (game.capacity + 1) ^ k ≤ offset) × IsSet source shifted bit)
came_by game s k half bit digits source before words i shifted offset is lowered reach was (j, lj, from) = elim (cases_lt j k) [
  | inl early ↦ inl (subst (λ n. IsSet words n bit) (sym is) (was (inr (j, early, from))))
  | inr late ↦
      let e : j ≡ k = omega (arith, lj, late) in
      let here : CameFromBin game s source half bit digits k = subst (CameFromBin game s source half bit digits) e from in
      inr (reach here.0, subst (λ n. IsSet source n bit) (sym (lowered here.0)) here.1)
]

pub IsMoved-more : (game : GameNumbers) (s k stride : ℕ) (source before words after : List ℕ) → k < game.bins - 2 → stride ≡ (game.capacity + 1) ^ k
    → length words ≡ halves_of game * rows_of game → IsMoved game s k source before words → IsPutInBin stride (game.capacity + 1) s source words after
    → IsMoved game s (k + 1) source before after
IsMoved-more game s k stride source before words after lk is_stride size m put = record {
  exact = λ half bit digits a lh lb.
      let l : k < length digits = omega (arith, a.one_each, lk) in
      let split = split_at game half k digits a l in
      let put' : IsPutInBin ((game.capacity + 1) ^ k) (game.capacity + 1) s source words after = subst (λ n. IsPutInBin n (game.capacity + 1) s source words after) is_stride put in
      let p = put'.exact split.block split.offset bit split.within (omega (arith, split.is, place-lt game half digits a lh, size)) lb in
      let i : ℕ = split.block * ((game.capacity + 1) * (game.capacity + 1) ^ k) + split.offset in
      let was = m.exact half bit digits a lh lb in (
        λ h. ⊎_elim (λ x. ⊎_elim (λ y. inl y) (λ y. inr (y.0, omega (arith, y.1), y.2)) (was.0 (subst (λ n. IsSet words n bit) split.is x))) (λ x.
            let held = (split.digit s).0 x.0 in
            inr (k, omega arith, (held, subst (λ n. IsSet source n bit) (ap (λ n. n - s * (game.capacity + 1) ^ k) split.is ∙ lowered_place game half k s digits l held) x.1))) (p.0
            (subst (λ n. IsSet after n bit) (sym split.is) h)),
        λ h. subst (λ n. IsSet after n bit) split.is (p.1 (⊎_elim
            (λ x. inl (subst (λ n. IsSet words n bit) (sym split.is) (was.1 (inl x))))
            (came_by game s k half bit digits source before words i (i - s * (game.capacity + 1) ^ k) split.offset split.is
            (λ le. ap (λ n. n - s * (game.capacity + 1) ^ k) split.is ∙ lowered_place game half k s digits l le) (split.digit s).1 was.1) h)),
      );
}

-- the least sum that the loads of all bins but the last must have
lack_is : (game : GameNumbers) (items digits : List ℕ) (s load : ℕ) → IsGame game → AreDigits game digits → load ≤ game.capacity
    → (held_total (items ++ s ∷ []) - game.capacity ≤ load + sum digits) ↔ (sum items + s ≤ game.capacity + sum (load ∷ digits))
lack_is game items digits s load g a fit =
    let most = sum_by-le (λ x. x) game.capacity digits a.fit in
    let more = mul-le (length digits) game.capacity 6 120 (omega (arith, a.one_each, g.bins.high)) g.capacity.high in
    let all = sum_by-append (λ x. x) items (s ∷ []) in
    let one = sum_by-cons (λ x. x) s [] in
    let first = sum_by-cons (λ x. x) load digits in
    (λ h. omega (arith, h, most, more, all, one, first, fit, g.capacity.high), λ h. omega (arith, h, most, more, all, one, first, fit, g.capacity.high))

-- the blocks of rows that differ at one digit alone fill a plane
pub record HasBlocks (game : GameNumbers) (stride words : ℕ) : Type 0 where
  pub some : 1 ≤ stride
  pub within : (game.capacity + 1) * stride ≤ words
  pub whole : words % ((game.capacity + 1) * stride) ≡ 0
  pub fits : stride * (game.capacity + 1) < 18446744073709551616

blocks_fill : (base stride wide rows halves words : ℕ) → 1 ≤ base → 1 ≤ stride → 1 ≤ wide → 1 ≤ halves → rows ≡ base * stride * wide → words ≡ halves * rows
    → (base * stride ≤ words) × (words % (base * stride) ≡ 0)
blocks_fill base stride wide rows halves words b s w h e f =
    let one : 1 ≤ base * stride = mul-le 1 1 base stride b s in
    let more : 1 ≤ halves * wide = mul-le 1 1 halves wide h w in
    let is : words ≡ halves * wide * (base * stride) + 0 = omega (arith, f, ap (λ n. halves * n) e) in
    (omega (arith, is, mul-le-mul_right (base * stride) more), ap (λ n. n % (base * stride)) is ∙ mod-mul-add (halves * wide) (base * stride) 0 one)

pub has_blocks : (game : GameNumbers) (k stride words : ℕ) → IsGame game → k < game.bins - 2 → stride ≡ (game.capacity + 1) ^ k → words ≡ halves_of game * rows_of game
    → HasBlocks game stride words
has_blocks game k stride words g l e f =
    let wide : ℕ = (game.capacity + 1) ^ (game.bins - 2 - (k + 1)) in
    let places : game.bins - 2 ≡ (k + 1) + (game.bins - 2 - (k + 1)) = omega (arith, l) in
    let next : (game.capacity + 1) ^ (k + 1) ≡ (game.capacity + 1) * stride = ap (λ n. (game.capacity + 1) ^ n) (let q : k + 1 ≡ suc k = omega arith in q)
    ∙ pow-succ' (game.capacity + 1) k ∙ ap (λ n. (game.capacity + 1) * n) (sym e) in
    let rows : rows_of game ≡ (game.capacity + 1) * stride * wide = ap (λ n. (game.capacity + 1) ^ n) places ∙ pow-add (game.capacity + 1) (k + 1) (game.bins - 2 - (k + 1))
    ∙ ap (λ n. n * wide) next in
    let some : 1 ≤ stride = omega (arith, e, one-le-pow k (game.capacity + 1) (omega arith)) in
    let fill = blocks_fill (game.capacity + 1) stride wide (rows_of game) (halves_of game) words (omega arith) some
    (one-le-pow (game.bins - 2 - (k + 1)) (game.capacity + 1) (omega arith)) (omega arith) rows f in
    record {
      some = some;
      within = fill.0;
      whole = fill.1;
      fits = omega (arith, next, pow-bound game.capacity (k + 1) g.capacity.high (omega (arith, l, g.bins.high)));
    }

-- one more item
module _ (game : GameNumbers) (items sums source kept first after : List ℕ) (lack s : ℕ) (g : IsGame game) (size : IsSize game.capacity s) (sums_are : AreDigitSums game sums)
    (plane : IsPlaneOf game items source) (keep : IsKept (halves_of game) lack sums source kept) (put : IsPutInFirst (rows_of game) game.capacity s source kept first)
    (moved : IsMoved game s (game.bins - 2) source first after) (lacks : lack ≡ held_total (items ++ s ∷ []) - game.capacity) where
  place : (half bit : ℕ) (digits : List ℕ) → AreDigits game digits → half < halves_of game → bit < 64
      → IsPlace (rows_of game) (halves_of game) half (row_of (game.capacity + 1) digits) bit
  place half bit digits a lh lb = record { in_halves = lh; in_rows = row-lt game digits a; in_word = lb }

  kept_is : (half bit : ℕ) (digits : List ℕ) → AreDigits game digits → half < halves_of game → bit < 64 → IsSet kept (place_of game half digits) bit
      ↔ (IsSet source (place_of game half digits) bit × (lack ≤ 64 * half + bit + sum digits))
  kept_is half bit digits a lh lb =
      let row : ℕ = row_of (game.capacity + 1) digits in
      let rows = sums_are.size in
      let k = keep.exact half row bit (subst (λ n. IsPlace n (halves_of game) half row bit) (sym rows) (place half bit digits a lh lb)) in
      let k' = subst (λ n. IsSet kept (word_at n half row) bit ↔ (IsSet source (word_at n half row) bit × (lack ≤ 64 * half + bit + slice_index sums row))) rows k in
      let places : game.bins - 2 ≡ length digits = omega (arith, a.one_each) in
      let is : slice_index sums row ≡ sum digits = sums_are.exact row (row-lt game digits a) ∙ ap (λ n. digit_sum (game.capacity + 1) n row) places
      ∙ digit_sum-row_of game.capacity digits a.fit in
      subst (λ n. IsSet kept (place_of game half digits) bit ↔ (IsSet source (place_of game half digits) bit × (lack ≤ 64 * half + bit + n))) is k'

  -- a bit that stays
  stayed : (half bit : ℕ) (digits : List ℕ) → AreDigits game digits → half < halves_of game → bit < 64 → 64 * half + bit ≤ game.capacity
      → IsSet kept (place_of game half digits) bit ↔ WentLast game items ((64 * half + bit) ∷ digits) s
  stayed half bit digits a lh lb fit =
      let k = kept_is half bit digits a lh lb in
      let e = plane.exact half bit digits a lh lb in
      let r = lack_is game items digits s (64 * half + bit) g a fit in (
        λ h. let b = k.0 h in record { before = (e.0 b.0).1; room = r.0 (omega (arith, b.1, lacks)) },
        λ w. k.1 (e.1 (fit, w.before), let x = r.1 w.room in omega (arith, x, lacks)),
      )

  -- a bit that moved within its row
  rose : (half bit : ℕ) (digits : List ℕ) → AreDigits game digits → half < halves_of game → bit < 64 → 64 * half + bit ≤ game.capacity → s ≤ 64 * half + bit
      → IsSet source (word_at (rows_of game) ((64 * half + bit - s) / 64) (row_of (game.capacity + 1) digits)) ((64 * half + bit - s) % 64)
      ↔ IsStart game items (set ((64 * half + bit) ∷ digits) 0 (64 * half + bit - s))
  rose half bit digits a lh lb fit le =
      let load : ℕ = 64 * half + bit - s in
      let e = plane.exact (load / 64) (load % 64) digits a (omega (arith, fit)) (omega arith) in
      let whole : 64 * (load / 64) + load % 64 ≡ load = omega arith in (
        λ h. subst (λ n. IsStart game items (n ∷ digits)) whole (e.0 h).1,
        λ h. e.1 (omega (arith, whole, fit), subst (λ n. IsStart game items (n ∷ digits)) (sym whole) h),
      )

  -- a bit that moved at a digit
  came : (half bit j : ℕ) (digits : List ℕ) → AreDigits game digits → half < halves_of game → bit < 64 → 64 * half + bit ≤ game.capacity → j < length digits
      → IsSet source (place_of game half (set digits j (get_or digits j 0 - s))) bit ↔ IsStart game items (set ((64 * half + bit) ∷ digits) (suc j) (get_or digits j 0 - s))
  came half bit j digits a lh lb fit l =
      let low : get_or digits j 0 - s ≤ game.capacity = omega (arith, All-get_or (λ load. load ≤ game.capacity) digits j 0 l a.fit) in
      let e = plane.exact half bit (set digits j (get_or digits j 0 - s)) (AreDigits-set game digits j (get_or digits j 0 - s) a low) lh lb in
      (λ h. (e.0 h).1, λ h. e.1 (fit, h))

  -- no bit above the capacity is set
  high_bits : (half bit : ℕ) (digits : List ℕ) → AreDigits game digits → half < halves_of game → bit < 64 → IsSet after (place_of game half digits) bit
      → 64 * half + bit ≤ game.capacity
  high_bits half bit digits a lh lb h =
      ⊎_elim (λ x. ⊎_elim (λ y. ((plane.exact half bit digits a lh lb).0 ((kept_is half bit digits a lh lb).0 y).0).0)
      (λ y. y.1) ((put.exact half (row_of (game.capacity + 1) digits) bit (place half bit digits a lh lb)).0 x)) (λ x.
      let l : x.0 < length digits = omega (arith, x.1, a.one_each) in
      let low : get_or digits x.0 0 - s ≤ game.capacity = omega (arith, All-get_or (λ load. load ≤ game.capacity) digits x.0 0 l a.fit) in
      ((plane.exact half bit (set digits x.0 (get_or digits x.0 0 - s)) (AreDigits-set game digits x.0
      (get_or digits x.0 0 - s) a low) lh lb).0 x.2.1).0) ((moved.exact half bit digits a lh lb).0 h)

  -- a bin that can have had the item
  bin_that_had : (half bit : ℕ) (digits : List ℕ) → AreDigits game digits → half < halves_of game → bit < 64 → 64 * half + bit ≤ game.capacity → (k : ℕ)
      → WentTo game items ((64 * half + bit) ∷ digits) s k → IsSet after (place_of game half digits) bit
  bin_that_had half bit digits a lh lb fit zero w =
      let p = put.exact half (row_of (game.capacity + 1) digits) bit (place half bit digits a lh lb) in
      (moved.exact half bit digits a lh lb).1 (inl (p.1 (inr (w.held, fit, (rose half bit digits a lh lb fit w.held).1 w.before))))
  bin_that_had half bit digits a lh lb fit (suc j) w =
      let l : j < length digits = omega (arith, w.in_range) in
      (moved.exact half bit digits a lh lb).1 (inr (j, omega (arith, l, a.one_each), (w.held, (came half bit j digits a lh lb fit l).1 w.before)))

  pub IsPlaneOf-more : length after ≡ length source → IsPlaneOf game (items ++ s ∷ []) after
  IsPlaneOf-more same = record {
    size = same ∙ plane.size;
    exact = λ half bit digits a lh lb.
        let load : ℕ = 64 * half + bit in
        let m = moved.exact half bit digits a lh lb in
        let p = put.exact half (row_of (game.capacity + 1) digits) bit (place half bit digits a lh lb) in (
          λ h.
              let fit = high_bits half bit digits a lh lb h in (
                fit,
                ⊎_elim (λ x. ⊎_elim (λ y. IsStart-last game items (load ∷ digits) s size ((stayed half bit digits a lh lb fit).0 y))
                    (λ y. IsStart-to game items (load ∷ digits) s 0 size fit (record { in_range = omega arith; held = y.0; before = (rose half bit digits a lh lb fit y.0).0 y.2 }))
                    (p.0 x)) (λ x.
                    let l : x.0 < length digits = omega (arith, x.1, a.one_each) in
                    IsStart-to game items (load ∷ digits) s (suc x.0) size (All-get_or (λ n. n ≤ game.capacity) digits x.0 0 l a.fit)
                    (record { in_range = omega (arith, l); held = x.2.0; before = (came half bit x.0 digits a lh lb fit l).0 x.2.1 })) (m.0 h),
              ),
          λ (fit, start). ⊎_elim (λ w. m.1 (inl (p.1 (inl ((stayed half bit digits a lh lb fit).1 w)))))
              (λ (k, w). bin_that_had half bit digits a lh lb fit k w) (went_somewhere game items (load ∷ digits) s start),
        );
  }
