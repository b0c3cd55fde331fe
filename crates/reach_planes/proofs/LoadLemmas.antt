-- What the bits of a plane tell of the loads that are reached.
use Rattle.std.specs.Prelude.{slice_index}
use Rattle.std.proofs.Common.{◌≡◌, ◌↔◌, ℕ, zero, suc, ◌+◌, ◌-◌, ◌*◌, ◌/◌, ◌%◌, ◌^◌, ◌<◌, ◌≤◌, cond, eqb, List, [], ◌∷◌, ◌++◌}
use Rattle.std.proofs.Common.{length, get_or, set, take, drop, sum, replicate, refl, sym, ap, ◌∙◌, subst, inl, inr, arith}
use Rattle.std.specs.Prelude.{All, Contains, IsTrue, bit_and}
use Rattle.std.specs.Int.{bit_at, trailing_zeros, w64}
use Rattle.std.proofs.lemmas.Bool.{cases_lt, cases_eq, eqb-true, eq-eqb}
use Rattle.std.proofs.lemmas.List.{length-set, length-take-le, length-drop, length-replicate, get_or-replicate}
use Rattle.std.proofs.lemmas.List.{get_or-set_same, get_or-set_other, ext_get_or, length_push, get_or_append_left, get_or-append_right}
use Rattle.std.proofs.lemmas.List.Sums.{sum_by-cons, sum_by-le}
use Rattle.std.proofs.lemmas.List.Elements.{All-from_get_or, All-tail, All-take, All-drop, All-contains, Contains-get_or}
use Rattle.std.proofs.lemmas.Nat.{mul-add-lt, mul-le}
use Rattle.std.proofs.lemmas.Nat.Bits.{bit_at-zero, bit_at-pow_same, bit_at-pow_other, bit_at-trailing_zeros, shr_and_one}
use Rattle.std.proofs.Math.Nat.{one-le-pow}
use Rattle.items.specs.Game.{GameNumbers, IsGame}
use Rattle.items.specs.Multiset.{Same, count}
use Rattle.items.specs.Packable.{Packable}
use Rattle.items.proofs.MultisetLemmas.{count-sum_by}
use Rattle.items.proofs.SameLemmas.{Same-refl, Same-trans}
use Rattle.loads.specs.Descending.{IsDescending, put_descending, take_out}
use Rattle.loads.proofs.DescendingLemmas.{IsDescending-put, IsDescending-nil, Contains-here}
use Rattle.loads.proofs.CountLemmas.{sum_by-put, sum_by-take_out, Contains-Same}
use Rattle.reach_planes.specs.Reached.{ItemsSent, sent, totals, HasTotals, IsReached, IsLeastLoad}
use Rattle.reach_planes.specs.Words.{IsSet}
use Rattle.reach_planes.specs.Layout.{IsStart, IsPlaneOf, AreDigits, ArePlanes, IsLeastBit, NoBits, word_at, row_of, rows_of, halves_of, digits_of}
use Rattle.items.proofs.AssignmentLemmas.{IsAssignment-nil}
use Rattle.reach_planes.proofs.AssignmentLemmas.{length-totals, front_and_last, totals-nil}
use Rattle.reach_planes.proofs.TotalsLemmas.{length-HasTotals, All-HasTotals, HasTotals-Same, last_of_start, sum_end}
use Rattle.reach_planes.proofs.RowLemmas.{length-digits_of, All-digits_of, row_of-digits_of, sum-digits_of, row_of-zeros, zeros-row_of}
use Rattle.reach_planes.proofs.PlaneLemmas.{place_of, row-lt, place-lt}

-- a list in descending order
unfoldable pub descending_form : List ℕ → List ℕ
descending_form [] = []
descending_form (x ∷ xs) = put_descending x (descending_form xs)

pub IsDescending-descending_form : (xs : List ℕ) → IsDescending (descending_form xs)
unfolding descending_form
IsDescending-descending_form [] = IsDescending-nil
IsDescending-descending_form (x ∷ xs) = IsDescending-put x (descending_form xs) (IsDescending-descending_form xs)

pub Same-descending_form : (xs : List ℕ) → Same xs (descending_form xs)
unfolding descending_form
Same-descending_form [] y = refl
Same-descending_form (x ∷ xs) y =
    let f : ℕ → ℕ = λ z. cond (eqb y z) 1 0 in
    omega (arith, Same-descending_form xs y, count-sum_by y (put_descending x (descending_form xs)), count-sum_by y (descending_form xs), sum_by-put f x (descending_form xs))

-- totals in descending order are sorted loads that are reached, and the other way round
pub IsReached-from_totals : (game : GameNumbers) (items loads : List ℕ) → HasTotals game items loads → IsReached game items (descending_form loads)
IsReached-from_totals game items loads h = (
  h.0,
  record {
    assigned = h.1;
    descending = IsDescending-descending_form loads;
    same = Same-trans (totals game items h.0) loads (descending_form loads) h.2 (Same-descending_form loads);
  },
)

pub HasTotals-reached : (game : GameNumbers) (items loads : List ℕ) → IsReached game items loads → HasTotals game items loads
HasTotals-reached game items loads r = (r.0, r.1.assigned, r.1.same)

-- totals with one of the loads first
pub record HasFront (game : GameNumbers) (items : List ℕ) (load : ℕ) : Type 0 where
  pub digits : List ℕ
  pub are_digits : AreDigits game digits
  pub fits : load ≤ game.capacity
  pub start : IsStart game items (load ∷ digits)

pub front_load : (game : GameNumbers) (items loads : List ℕ) (load : ℕ) → IsGame game → HasTotals game items loads → Contains loads load → HasFront game items load
front_load game items loads load g h member =
    let rest = take_out load loads in
    let turned : Same loads (load ∷ rest) = λ y. let t = sum_by-take_out
    (λ z. cond (eqb y z) 1 0) load loads member in omega (arith, t, count-sum_by y loads, count-sum_by y rest) in
    let h' = HasTotals-Same game items loads (load ∷ rest) turned h in
    let n = length-HasTotals game items (load ∷ rest) h' in
    let fit = All-HasTotals game items (load ∷ rest) h' in
    let k : ℕ = game.bins - 2 in
    let long : length rest ≡ k + 1 = omega (arith, n, g.bins.low) in
    record {
      digits = take k rest;
      are_digits = record {
        one_each = omega (arith, length-take-le k rest (omega (arith, long)), g.bins.low);
        fit = All-take (λ x. x ≤ game.capacity) k rest (All-tail (λ x. x ≤ game.capacity) load rest fit);
      };
      fits = All-contains (λ x. x ≤ game.capacity) (load ∷ rest) load fit (Contains-here load rest);
      start = (get_or rest k 0, subst (λ xs. HasTotals game items (load ∷ xs)) (front_and_last rest k long) h');
    }

-- a bit that stands for a load of the first bin and digits
pub marked : (game : GameNumbers) (items words : List ℕ) (load : ℕ) (digits : List ℕ) → IsPlaneOf game items words → AreDigits game digits → load ≤ game.capacity
    → IsSet words (place_of game (load / 64) digits) (load % 64) ↔ IsStart game items (load ∷ digits)
marked game items words load digits plane a fit =
    let e = plane.exact (load / 64) (load % 64) digits a (omega (arith, fit)) (omega arith) in
    let whole : 64 * (load / 64) + load % 64 ≡ load = omega arith in (
      λ h. subst (λ n. IsStart game items (n ∷ digits)) whole (e.0 h).1,
      λ h. e.1 (omega (arith, whole, fit), subst (λ n. IsStart game items (n ∷ digits)) (sym whole) h),
    )

-- the digits of a row
pub AreDigits-of : (game : GameNumbers) (row : ℕ) → IsGame game → AreDigits game (digits_of (game.capacity + 1) (game.bins - 2) row)
AreDigits-of game row g =
    record { one_each = omega (arith, length-digits_of (game.capacity + 1) (game.bins - 2) row, g.bins.low); fit = All-digits_of game.capacity (game.bins - 2) row }

-- a bit that is set stands for loads that are reached
pub record IsStartAt (game : GameNumbers) (items : List ℕ) (load row : ℕ) : Type 0 where
  pub fits : load ≤ game.capacity
  pub start : IsStart game items (load ∷ digits_of (game.capacity + 1) (game.bins - 2) row)

pub start_at : (game : GameNumbers) (items words : List ℕ) (half row bit : ℕ) → IsGame game → IsPlaneOf game items words → half < halves_of game → row < rows_of game → bit < 64
    → IsSet words (word_at (rows_of game) half row) bit → IsStartAt game items (64 * half + bit) row
start_at game items words half row bit g plane lh lr lb h =
    let is = row_of-digits_of game.capacity (game.bins - 2) row lr in
    let e = (plane.exact half bit (digits_of (game.capacity + 1) (game.bins - 2) row) (AreDigits-of game row g) lh lb).0
    (subst (λ n. IsSet words (word_at (rows_of game) half n) bit) (sym is) h) in
    record { fits = e.0; start = e.1 }

-- the least load of which a bit is set
pub IsLeastLoad-from_bit : (game : GameNumbers) (items words : List ℕ) (load : ℕ) → IsGame game → IsPlaneOf game items words → IsLeastBit (rows_of game) (halves_of game) words load
    → IsLeastLoad game items load
IsLeastLoad-from_bit game items words load g plane least =
    let whole : 64 * (load / 64) + load % 64 ≡ load = omega arith in
    let at = start_at game items words (load / 64) least.row (load % 64) g plane least.in_halves least.in_rows (omega arith) least.is_set in
    let digits = digits_of (game.capacity + 1) (game.bins - 2) least.row in
    let start : IsStart game items (load ∷ digits) = subst (λ n. IsStart game items (n ∷ digits)) whole at.start in
    let loads = load ∷ (digits ++ start.0 ∷ []) in
    record {
      loads = descending_form loads;
      reached = IsReached-from_totals game items loads start.1;
      member = Contains-Same load loads (descending_form loads) (Same-descending_form loads) (Contains-here load (digits ++ start.0 ∷ []));
      bound = λ others r. All-from_get_or (λ x. load ≤ x) others 0 (λ k l. elim (cases_lt (get_or others k 0) load) [
        | inl below ↦
            let f = front_load game items others (get_or others k 0) g (HasTotals-reached game items others r) (Contains-get_or others k 0 l) in
            let w : 64 * (get_or others k 0 / 64) + get_or others k 0 % 64 ≡ get_or others k 0 = omega arith in
            absurd (least.none_below (get_or others k 0 / 64) (row_of (game.capacity + 1) f.digits) (get_or others k 0 % 64) (omega (arith, f.fits))
            (row-lt game f.digits f.are_digits) (omega arith) (omega (arith, w, below))
            ((marked game items words (get_or others k 0) f.digits plane f.are_digits f.fits).1 f.start))
        | inr fit ↦ fit
      ]);
    }

-- where no bit is set, the items have no assignment
pub not_packable_from_bits : (game : GameNumbers) (items words : List ℕ) → IsGame game → IsPlaneOf game items words → NoBits (rows_of game) (halves_of game) words
    → Packable game items → ⊥
not_packable_from_bits game items words g plane none p =
    let loads = totals game items p.0 in
    let load : ℕ = get_or loads 0 0 in
    let h : HasTotals game items loads = (p.0, p.1, Same-refl loads) in
    let f = front_load game items loads load g h (Contains-get_or loads 0 0 (omega (arith, length-totals game items p.0, g.bins.low))) in
    none (load / 64) (row_of (game.capacity + 1) f.digits) (load % 64) (omega (arith, f.fits)) (row-lt game f.digits f.are_digits) (omega arith)
    ((marked game items words load f.digits plane f.are_digits f.fits).1 f.start)

-- no items have the loads 0
HasTotals-none : (game : GameNumbers) (loads : List ℕ) → length loads ≡ game.bins → ((k : ℕ) → get_or loads k 0 ≡ 0) → HasTotals game [] loads
HasTotals-none game loads n z =
    let e : replicate game.bins 0 ≡ loads = ext_get_or 0 _ _ (length-replicate {A = ℕ} game.bins 0 ∙ sym n)
    (λ k l. get_or-replicate game.bins k 0 0 (omega (arith, l, length-replicate {A = ℕ} game.bins 0)) ∙ sym (z k)) in
    ([], IsAssignment-nil game, λ x. ap (count x) (totals-nil game ∙ e))

last_zero : (i : ℕ) → get_or {A = ℕ} (0 ∷ []) i 0 ≡ 0
last_zero zero = refl
last_zero (suc i) = refl

all_zero : (load : ℕ) (digits : List ℕ) → load ≡ 0 → ((k : ℕ) → get_or digits k 0 ≡ 0) → (k : ℕ) → get_or (load ∷ (digits ++ 0 ∷ [])) k 0 ≡ 0
all_zero load digits e z zero = e
all_zero load digits e z (suc k) = elim (cases_lt k (length digits)) [
  | inl l ↦ get_or_append_left digits (0 ∷ []) 0 k l ∙ z k
  | inr l ↦ get_or-append_right digits (0 ∷ []) (length digits) k 0 refl l ∙ last_zero (k - length digits)
]

-- the first word of a list of zeros made 1
set_first : (n i bit : ℕ) → i < n → IsSet (set (replicate n 0) 0 1) i bit ↔ ((i ≡ 0) × (bit ≡ 0))
set_first n i bit l = elim (cases_eq i 0) [
  | inl e ↦
      let here : get_or (set (replicate n 0) 0 1) i 0 ≡ 1 = ap (λ k. get_or (set (replicate n 0) 0 1) k 0) e
      ∙ get_or-set_same (replicate n 0) 0 1 0 (omega (arith, l, length-replicate {A = ℕ} n 0)) in
      elim (cases_eq bit 0) [
        | inl b ↦ (λ h. (e, b), λ h. ap (λ w. bit_at w bit) here ∙ ap (bit_at 1) b ∙ bit_at-pow_same 0)
        | inr b ↦ (λ h. absurd (omega (arith, h, ap (λ w. bit_at w bit) here, bit_at-pow_other 0 bit b)), λ h. absurd (b h.1))
      ]
  | inr e ↦
      let other : get_or (set (replicate n 0) 0 1) i 0 ≡ 0 = get_or-set_other (replicate n 0) 0 i 1 0 e ∙ get_or-replicate {A = ℕ} n i 0 0 l in
      (λ h. absurd (omega (arith, h, ap (λ w. bit_at w bit) other, bit_at-zero bit)), λ h. absurd (e h.0))
]

first_half : (rows half row : ℕ) → 1 ≤ rows → half * rows + row ≡ 0 → half ≡ 0
first_half rows zero row l e = refl
first_half rows (suc half) row l e = let m = mul-le 1 1 (suc half) rows (omega arith) l in absurd (omega (arith, m, e))

pub IsPlaneOf-none : (game : GameNumbers) (n : ℕ) → IsGame game → n ≡ halves_of game * rows_of game → IsPlaneOf game [] (set (replicate n 0) 0 1)
IsPlaneOf-none game n g e = record {
  size = length-set (replicate n 0) 0 1 ∙ length-replicate {A = ℕ} n 0 ∙ e;
  exact = λ half bit digits a lh lb.
      let some : 1 ≤ rows_of game = one-le-pow (game.bins - 2) (game.capacity + 1) (omega arith) in
      let row : ℕ = row_of (game.capacity + 1) digits in
      let p = set_first n (place_of game half digits) bit (omega (arith, e, place-lt game half digits a lh)) in (
        λ h.
            let at = p.0 h in
            let first : half ≡ 0 = first_half (rows_of game) half row some at.0 in
            let none : row ≡ 0 = omega (arith, at.0) in
            let z = zeros-row_of (game.capacity + 1) digits (omega arith) none in (
              omega (arith, first, at.1),
              (
                0,
                HasTotals-none game ((64 * half + bit) ∷ (digits ++ 0 ∷ [])) (omega (arith, length_push digits 0, a.one_each))
                    (all_zero (64 * half + bit) digits (omega (arith, first, at.1)) z),
              ),
            ),
        λ (fit, start).
            let s = last_of_start game [] ((64 * half + bit) ∷ digits) start in
            let c = sum_by-cons (λ x. x) (64 * half + bit) digits in
            let none : row ≡ 0 = row_of-zeros (game.capacity + 1) digits (omega (arith, s, c)) in
            let first : half ≡ 0 = omega (arith, s, c) in
            p.1 (omega (arith, none, ap (λ k. k * rows_of game) first), omega (arith, s, c)),
      );
}

-- the bit that is looked at for a load and digits
marks_bit : (game : GameNumbers) (items words : List ℕ) (load : ℕ) (digits : List ℕ) (i word : ℕ) → IsPlaneOf game items words → AreDigits game digits → load ≤ game.capacity
    → i ≡ place_of game (load / 64) digits → word ≡ get_or words i 0 → IsTrue (eqb (bit_and (word / 2 ^ (load % 64)) 1) 1) ↔ IsStart game items (load ∷ digits)
marks_bit game items words load digits i word plane a fit at is =
    let e : bit_and (word / 2 ^ (load % 64)) 1 ≡ bit_at (get_or words (place_of game (load / 64) digits) 0) (load % 64) = shr_and_one word (load % 64)
    ∙ ap (λ w. bit_at w (load % 64)) (is ∙ ap (λ k. get_or words k 0) at) in
    let m = marked game items words load digits plane a fit in (
      λ t. m.0 (sym e ∙ eqb-true _ _ t),
      λ h. eq-eqb _ _ (e ∙ m.1 h),
    )

pub marks_seen : (game : GameNumbers) (items words : List ℕ) (seen : ItemsSent) (load : ℕ) (digits : List ℕ) (half rows row word : ℕ) → sent game items ≡ seen
    → IsPlaneOf game items words → AreDigits seen.game digits → load ≤ seen.game.capacity → half ≡ load / 64 → rows ≡ rows_of game → row ≡ row_of (game.capacity + 1) digits
    → word ≡ get_or words (half * rows + row) 0 → IsTrue (eqb (bit_and (word / 2 ^ (load % 64)) 1) 1) ↔ IsStart seen.game seen.items (load ∷ digits)
marks_seen game items words seen load digits half rows row word is plane a fit h r q w =
    let at : half * rows + row ≡ place_of game (load / 64) digits = ap (λ n. n * rows + row) h ∙ ap (λ n. load / 64 * n + row) r ∙ ap (λ n. load / 64 * rows_of game + n) q in
    subst (λ (x : ItemsSent). AreDigits x.game digits → load ≤ x.game.capacity → IsTrue (eqb (bit_and (word / 2 ^ (load % 64)) 1) 1) ↔ IsStart x.game x.items (load ∷ digits)) is
    (λ a' fit'. marks_bit game items words load digits (half * rows + row) word plane a' fit' at w) a fit

pub marks_within : (game : GameNumbers) (items words : List ℕ) (seen : ItemsSent) (load : ℕ) (digits : List ℕ) (half rows row : ℕ) → IsGame game → sent game items ≡ seen
    → IsPlaneOf game items words → AreDigits seen.game digits → load ≤ seen.game.capacity → half ≡ load / 64 → rows ≡ rows_of game → row ≡ row_of (game.capacity + 1) digits
    → half * rows + row < length words
marks_within game items words seen load digits half rows row g is plane a fit h r q =
    let at : half * rows + row ≡ place_of game (load / 64) digits = ap (λ n. n * rows + row) h ∙ ap (λ n. load / 64 * n + row) r ∙ ap (λ n. load / 64 * rows_of game + n) q in
    let l = subst (λ (x : ItemsSent). AreDigits x.game digits → load ≤ x.game.capacity → place_of game (load / 64) digits < halves_of game * rows_of game) is
    (λ a' fit'. place-lt game (load / 64) digits a' (omega (arith, fit'))) a fit in
    omega (arith, at, l, plane.size)

-- loads that are split into the first, the last and the others
pub AreDigits-between : (game : GameNumbers) (loads : List ℕ) (n : ℕ) → IsGame game → length loads ≡ game.bins → All (λ load. load ≤ game.capacity) loads → n ≡ game.bins - 2
    → AreDigits game (take n (drop 1 loads))
AreDigits-between game loads n g one_each fit e = record {
  one_each = omega (arith, e, one_each, g.bins.low, length-take-le n (drop 1 loads) (omega (arith, e, one_each, length-drop 1 loads)));
  fit = All-take (λ load. load ≤ game.capacity) n (drop 1 loads) (All-drop (λ load. load ≤ game.capacity) 1 loads fit);
}

split_loads : (loads : List ℕ) (n : ℕ) → length loads ≡ n + 2 → loads ≡ get_or loads 0 0 ∷ (take n (drop 1 loads) ++ get_or loads (n + 1) 0 ∷ [])
split_loads [] n e = absurd (omega arith)
split_loads (x ∷ xs) n e =
    ap (λ ys. x ∷ ys) (front_and_last xs n (omega arith) ∙ ap (λ v. take n xs ++ v ∷ []) (let q : suc n ≡ n + 1 = omega arith in ap (λ k. get_or (x ∷ xs) k 0) q))

pub sum_fits : (game : GameNumbers) (loads : List ℕ) → IsGame game → length loads ≡ game.bins → All (λ load. load ≤ game.capacity) loads → sum loads ≤ 960
sum_fits game loads g one_each fit =
    let most = sum_by-le (λ x. x) game.capacity loads fit in
    let more = mul-le (length loads) game.capacity 8 120 (omega (arith, one_each, g.bins.high)) g.capacity.high in
    omega (arith, most, more)

-- loads that sum to the items' total are reached where the bit of the first ones is set
pub contains_where : (game : GameNumbers) (items loads : List ℕ) (n : ℕ) → IsGame game → length loads ≡ game.bins → n ≡ game.bins - 2 → sum loads ≡ sum items
    → IsStart game items (get_or loads 0 0 ∷ take n (drop 1 loads)) ↔ HasTotals game items loads
contains_where game items loads n g one_each e total =
    let first = get_or loads 0 0 ∷ take n (drop 1 loads) in
    let whole : loads ≡ first ++ get_or loads (n + 1) 0 ∷ [] = split_loads loads n (omega (arith, e, one_each, g.bins.low)) in (
      λ start.
          let s = last_of_start game items first start in
          let last : start.0 ≡ get_or loads (n + 1) 0 = omega (arith, s, total, ap sum whole, sum_end first (get_or loads (n + 1) 0)) in
          subst (HasTotals game items) (ap (λ v. first ++ v ∷ []) last ∙ sym whole) start.1,
      λ h. (get_or loads (n + 1) 0, subst (HasTotals game items) whole h),
    )

-- no bit is set in one half more
pub NoBits-more : (rows half : ℕ) (words : List ℕ) → NoBits rows half words → ((k bit : ℕ) → k < rows → bit < 64 → IsSet words (half * rows + k) bit → ⊥)
    → NoBits rows (half + 1) words
NoBits-more rows half words none here h row bit lh lr lb is = elim (cases_lt h half) [
  | inl early ↦ none h row bit early lr lb is
  | inr late ↦ let e : h ≡ half = omega (arith, lh, late) in here row bit lr lb (subst (λ n. IsSet words (word_at rows n row) bit) e is)
]

-- where the bits that are set in some word of a half are known, and none is set in the halves before
abbrev pub AreBitsOf : ℕ → ℕ → List ℕ → ℕ → Type 0
AreBitsOf rows half words bits = (bit : ℕ) → (bit_at bits bit ≡ 1) ↔ ((k : ℕ) × (k < rows) × IsSet words (half * rows + k) bit)

pub NoBits-zero : (rows half bits : ℕ) (words : List ℕ) → NoBits rows half words → AreBitsOf rows half words bits → bits ≡ 0 → NoBits rows (half + 1) words
NoBits-zero rows half bits words none are e =
    NoBits-more rows half words none (λ k bit lk lb is. omega (arith, (are bit).1 (k, lk, is), ap (λ n. bit_at n bit) e, bit_at-zero bit))

pub least_bit : (rows halves half bits : ℕ) (words : List ℕ) → half < halves → NoBits rows half words → AreBitsOf rows half words bits → 0 < bits → bits < 2 ^ 64
    → IsLeastBit rows halves words (64 * half + trailing_zeros w64 bits)
least_bit rows halves half bits words l none are some fits =
    let t = bit_at-trailing_zeros w64 bits some fits in
    let bit : ℕ = trailing_zeros w64 bits in
    let load : ℕ = 64 * half + bit in
    let q : load / 64 ≡ half = omega (arith, t.0) in
    let r : load % 64 ≡ bit = omega (arith, t.0) in
    let at = (are bit).0 t.1 in
    record {
      row = at.0;
      in_rows = at.1;
      in_halves = omega (arith, q, l);
      is_set = subst (λ n. IsSet words (word_at rows n at.0) (load % 64)) (sym q) (subst (λ n. IsSet words (half * rows + at.0) n) (sym r) at.2);
      none_below = λ h row b lh lr lb below is. elim (cases_lt h half) [
        | inl early ↦ none h row b early lr lb is
        | inr late ↦
            let e : h ≡ half = omega (arith, late, below, t.0) in
            let set : bit_at bits b ≡ 1 = (are b).1 (row, lr, subst (λ n. IsSet words (word_at rows n row) b) e is) in
            omega (arith, set, t.2 b (omega (arith, below, e)))
      ];
    }

-- the loads that a bit stands for
pub record AreLoadsAt (game : GameNumbers) (items sums : List ℕ) (total load row : ℕ) : Type 0 where
  pub first : load ≤ total
  pub others : slice_index sums row ≤ total - load
  pub reached : HasTotals game items (load ∷ (digits_of (game.capacity + 1) (game.bins - 2) row ++ (total - load - slice_index sums row) ∷ []))

pub loads_at : (game : GameNumbers) (items sums words : List ℕ) (total load row : ℕ) → IsGame game → ArePlanes game items total sums words → row < rows_of game
    → IsStart game items (load ∷ digits_of (game.capacity + 1) (game.bins - 2) row) → AreLoadsAt game items sums total load row
loads_at game items sums words total load row g planes l start =
    let digits = digits_of (game.capacity + 1) (game.bins - 2) row in
    let s = last_of_start game items (load ∷ digits) start in
    let c = sum_by-cons (λ x. x) load digits in
    let d : slice_index sums row ≡ sum digits = planes.sums_are.exact row l ∙ sym (sum-digits_of (game.capacity + 1) (game.bins - 2) row) in
    let whole = (load ∷ digits) ++ start.0 ∷ [] in
    let bound = sum_fits game whole g (length-HasTotals game items whole start.1) (All-HasTotals game items whole start.1) in
    let e = sum_end (load ∷ digits) start.0 in
    let last : start.0 ≡ total - load - slice_index sums row = omega (arith, planes.total_is, s, c, d, bound, e) in
    record {
      first = omega (arith, planes.total_is, s, c, d, bound, e);
      others = omega (arith, planes.total_is, s, c, d, bound, e);
      reached = subst (λ v. HasTotals game items (load ∷ (digits ++ v ∷ []))) last start.1;
    }

-- no bit of words that are 0 is set
pub NoBits-words : (rows half : ℕ) (words : List ℕ) → NoBits rows half words → ((k : ℕ) → k < rows → get_or words (half * rows + k) 0 ≡ 0) → NoBits rows (half + 1) words
NoBits-words rows half words none all =
    NoBits-more rows half words none (λ k bit lk lb is. omega (arith, is, ap (λ n. bit_at n bit) (all k lk), bit_at-zero bit))

-- the lowest bit of a word that is not 0
pub start_at_lowest : (game : GameNumbers) (items words : List ℕ) (half row word : ℕ) → IsGame game → IsPlaneOf game items words → half < halves_of game → row < rows_of game
    → word ≡ get_or words (word_at (rows_of game) half row) 0 → (word ≡ 0 → ⊥) → word < 2 ^ 64 → IsStartAt game items (64 * half + trailing_zeros w64 word) row
start_at_lowest game items words half row word g plane lh lr e some fits =
    let t = bit_at-trailing_zeros w64 word (omega (arith, some)) fits in
    start_at game items words half row (trailing_zeros w64 word) g plane lh lr t.0 (sym (ap (λ n. bit_at n (trailing_zeros w64 word)) e) ∙ t.1)

-- a word of a row lies in the plane
pub word_within : (game : GameNumbers) (half row : ℕ) → half < halves_of game → row < rows_of game → word_at (rows_of game) half row < halves_of game * rows_of game
word_within game half row lh lr = let p = mul-add-lt half (rows_of game) row (halves_of game) lh lr in omega (arith, p)
