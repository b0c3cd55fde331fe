-- Rows: the numbers that digits spell.
use Rattle.std.proofs.Common.{◌≡◌, ℕ, zero, suc, ◌+◌, ◌-◌, ◌*◌, ◌/◌, ◌%◌, ◌^◌, ◌<◌, ◌≤◌, List, [], ◌∷◌}
use Rattle.std.proofs.Common.{length, get_or, set, take, drop, sum, refl, ap, ◌∙◌, subst, arith, lit<}
use Rattle.std.specs.Prelude.{All}
use Rattle.std.proofs.lemmas.Nat.{div-mul-add, mod-mul-add, mul-add-lt, div_below, mod_below, mul-le}
use Rattle.std.proofs.lemmas.List.Elements.{All-head, All-tail, All-nil, All-cons, All-drop, All-weaker}
use Rattle.std.proofs.lemmas.List.{drop_more, length-drop}
use Rattle.std.proofs.lemmas.List.Sums.{sum_by-cons}
use Rattle.std.proofs.Math.Nat.{pow-zero, pow-suc, pow-succ', div-add-mod, pow-le-pow_left, pow-le-pow_right}
use Rattle.reach_planes.specs.Layout.{row_of, digit_sum, digits_of}

-- a number spelled by digits up to most
pub row_of-lt : (most : ℕ) (digits : List ℕ) → All (λ d. d ≤ most) digits → row_of (most + 1) digits < (most + 1) ^ length digits
row_of-lt most [] a = omega (arith, pow-zero (most + 1))
row_of-lt most (d ∷ ds) a =
    let h = All-head (λ x. x ≤ most) d ds a in
    let r = row_of-lt most ds (All-tail (λ x. x ≤ most) d ds a) in
    let p = mul-add-lt (row_of (most + 1) ds) (most + 1) d ((most + 1) ^ length ds) r (omega (arith, h)) in
    let e = pow-succ' (most + 1) (length ds) in
    omega (arith, p, e)

pub row_of-head : (most d : ℕ) (ds : List ℕ) → d ≤ most → row_of (most + 1) (d ∷ ds) % (most + 1) ≡ d
row_of-head most d ds l =
    ap (λ n. n % (most + 1)) (let e : d + (most + 1) * row_of (most + 1) ds ≡ row_of (most + 1) ds * (most + 1) + d = omega arith in e)
    ∙ mod-mul-add (row_of (most + 1) ds) (most + 1) d (omega arith)

pub row_of-tail : (most d : ℕ) (ds : List ℕ) → d ≤ most → row_of (most + 1) (d ∷ ds) / (most + 1) ≡ row_of (most + 1) ds
row_of-tail most d ds l =
    ap (λ n. n / (most + 1)) (let e : d + (most + 1) * row_of (most + 1) ds ≡ row_of (most + 1) ds * (most + 1) + d = omega arith in e)
    ∙ div-mul-add (row_of (most + 1) ds) (most + 1) d (omega arith)

-- the sum of a number's digits
pub digit_sum-row_of : (most : ℕ) (digits : List ℕ) → All (λ d. d ≤ most) digits → digit_sum (most + 1) (length digits) (row_of (most + 1) digits) ≡ sum digits
digit_sum-row_of most [] a = refl
digit_sum-row_of most (d ∷ ds) a =
    let h = All-head (λ x. x ≤ most) d ds a in
    let r = digit_sum-row_of most ds (All-tail (λ x. x ≤ most) d ds a) in
    omega (arith, row_of-head most d ds h, ap (digit_sum (most + 1) (length ds)) (row_of-tail most d ds h), r, sum_by-cons (λ x. x) d ds)

-- the digits of a number spell it
pub length-digits_of : (base places number : ℕ) → length (digits_of base places number) ≡ places
length-digits_of base zero number = refl
length-digits_of base (suc places) number = ap suc (length-digits_of base places (number / base))

pub All-digits_of : (most places number : ℕ) → All (λ d. d ≤ most) (digits_of (most + 1) places number)
All-digits_of most zero number = All-nil (λ d. d ≤ most)
All-digits_of most (suc places) number =
    All-cons (λ d. d ≤ most) (number % (most + 1)) (digits_of (most + 1) places (number / (most + 1))) (let l = mod_below number (most + 1) (omega arith) in omega (arith, l))
    (All-digits_of most places (number / (most + 1)))

pub row_of-digits_of : (most places number : ℕ) → number < (most + 1) ^ places → row_of (most + 1) (digits_of (most + 1) places number) ≡ number
row_of-digits_of most zero number l = omega (arith, l, pow-zero (most + 1))
row_of-digits_of most (suc places) number l =
    let low : number / (most + 1) < (most + 1) ^ places = div_below number (most + 1) ((most + 1) ^ places) (omega arith) (omega (arith, l, pow-suc (most + 1) places)) in
    ap (λ n. number % (most + 1) + (most + 1) * n) (row_of-digits_of most places (number / (most + 1)) low) ∙ omega (arith, div-add-mod number (most + 1))

pub sum-digits_of : (base places number : ℕ) → sum (digits_of base places number) ≡ digit_sum base places number
sum-digits_of base zero number = refl
sum-digits_of base (suc places) number =
    omega (arith, sum_by-cons (λ x. x) (number % base) (digits_of base places (number / base)), sum-digits_of base places (number / base))

-- a number split at one of its digits
pub row_of-split : (base k : ℕ) (digits : List ℕ) → k < length digits
    → row_of base digits ≡ row_of base (take k digits) + base ^ k * (get_or digits k 0 + base * row_of base (drop (suc k) digits))
row_of-split base k [] l = absurd (omega arith)
row_of-split base zero (d ∷ ds) l = omega (arith, ap (λ n. n * (d + base * row_of base ds)) (pow-zero base))
row_of-split base (suc k) (d ∷ ds) l =
    let r = row_of-split base k ds (omega arith) in
    let e = pow-succ' base k in
    let p = ap (λ n. n * (get_or ds k 0 + base * row_of base (drop (suc k) ds))) e in
    omega (arith, r, p, ap (λ n. base * n) r)

-- a number with one digit lowered
pub row_of-lowered : (base k size : ℕ) (digits : List ℕ) → k < length digits → size ≤ get_or digits k 0
    → row_of base (set digits k (get_or digits k 0 - size)) + size * base ^ k ≡ row_of base digits
row_of-lowered base k size [] l le = absurd (omega arith)
row_of-lowered base zero size (d ∷ ds) l le = omega (arith, ap (λ n. size * n) (pow-zero base))
row_of-lowered base (suc k) size (d ∷ ds) l le =
    let r = row_of-lowered base k size ds (omega arith) le in
    let e = pow-succ' base k in
    omega (arith, ap (λ n. base * n) r, ap (λ n. size * n) e)

-- powers that fit 64 bits
pub pow-bound : (most places : ℕ) → most ≤ 120 → places ≤ 7 → (most + 1) ^ places ≤ 379749833583241
pow-bound most places l m =
    let base : most + 1 ≤ 121 = omega arith in
    let a = pow-le-pow_left {n = most + 1} {m = 121} base places in
    let b = pow-le-pow_right {n = 121} (lit< tt) {i = places} {j = 7} m in
    omega (arith, a, b)

no_factor : (a b : ℕ) → 1 ≤ a → a * b ≡ 0 → b ≡ 0
no_factor a zero l e = refl
no_factor a (suc b) l e = let m = mul-le 1 1 a (suc b) l (omega arith) in absurd (omega (arith, m, e))

-- a number spelled by no digit but 0
pub row_of-zeros : (base : ℕ) (digits : List ℕ) → sum digits ≡ 0 → row_of base digits ≡ 0
row_of-zeros base [] e = refl
row_of-zeros base (d ∷ ds) e =
    let s = sum_by-cons (λ x. x) d ds in
    omega (arith, ap (λ n. base * n) (row_of-zeros base ds (omega (arith, s, e))), s, e)

pub zeros-row_of : (base : ℕ) (digits : List ℕ) → 1 ≤ base → row_of base digits ≡ 0 → (k : ℕ) → get_or digits k 0 ≡ 0
zeros-row_of base [] b e k = refl
zeros-row_of base (d ∷ ds) b e zero = omega (arith, e)
zeros-row_of base (d ∷ ds) b e (suc k) =
    zeros-row_of base ds b (no_factor base (row_of base ds) b (omega (arith, e))) k

-- one more digit before the others
pub row_of-more : (base j : ℕ) (digits : List ℕ) → j < length digits → row_of base (drop (j + 1) digits) * base + get_or digits j 0 ≡ row_of base (drop j digits)
row_of-more base j digits l = omega (arith, ap (row_of base) (drop_more digits j 0 l))

pub row_of-bound : (base j : ℕ) (digits : List ℕ) → 1 ≤ base → base ≤ 121 → length digits ≤ 6 → All (λ d. d + 1 ≤ base) digits → row_of base (drop j digits) < 379749833583241
row_of-bound base j digits low high few all =
    let most : ℕ = base - 1 in
    let is : most + 1 ≡ base = omega (arith, low) in
    let fit : All (λ d. d ≤ most) (drop j digits) = All-drop (λ d. d ≤ most) j digits (All-weaker (λ d. d + 1 ≤ base) (λ d. d ≤ most) (λ d h. omega (arith, h)) digits all) in
    let r = subst (λ n. row_of n (drop j digits) < n ^ length (drop j digits)) is (row_of-lt most (drop j digits) fit) in
    let b = subst (λ n. n ^ length (drop j digits) ≤ 379749833583241) is (pow-bound most (length (drop j digits)) (omega (arith, high))
    (omega (arith, few, length-drop j digits))) in
    omega (arith, r, b)
