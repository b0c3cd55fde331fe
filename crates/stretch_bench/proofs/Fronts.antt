-- A line tells the numbers in it.
use Rattle.std.proofs.Common.{◌≡◌, ◌≢◌, ◌==◌, ◌<◌, ◌≤◌, ◌+◌, ◌*◌, ◌/◌, ◌%◌, ◌^◌, inl, inr, false, ℕ, zero}
use Rattle.std.proofs.Common.{suc, ⊎_elim, length, List, [], ◌∷◌, ◌++◌, get_or, drop, decimal, refl, ap, sym, subst, arith}
use Rattle.std.proofs.lemmas.Fmt.{decimal_injective, length-decimal-le}
use Rattle.std.proofs.lemmas.Bool.{cases_Bool, cases_lt, eqb-true}
use Rattle.std.specs.Fmt.{digits, digits_onto, digit_glyph}
use Rattle.std.specs.Prelude.{nat_lt}
use Rattle.items.specs.Game.{numbers}
use Rattle.strategy_text.specs.declared.node.Side.{Side}
use Rattle.strategy_text.specs.declared.node.Side.TheVariants.{Adversary, Algorithm}
use Rattle.checker.specs.declared.fault.Accepted.{Accepted}
use Rattle.stretch_bench.specs.Check.{accepted_line}
use Rattle.strategy_text.specs.Text.{side_word}

-- no element of the list is x
abbrev pub Lacks : ℕ → List ℕ → Type 0
Lacks x [] = Unit {0}
Lacks x (y ∷ ys) = (y ≢ x) × Lacks x ys

-- the digits of any number are at least 48
glyph_high : (d : ℕ) → 48 ≤ digit_glyph false d
glyph_high d = elim (cases_Bool (nat_lt d 10)) [
  | inl e ↦ rw e (omega arith)
  | inr e ↦ rw e (omega arith)
]

onto_lacks : (x k n : ℕ) (rest : List ℕ) → x < 48 → Lacks x rest → Lacks x (digits_onto k 10 false n rest)
onto_lacks x zero n rest low none = none
onto_lacks x (suc k) n rest low none =
    let glyph = digit_glyph false (n % 10) in
    let here : Lacks x (glyph ∷ rest) = (λ e. absurd (omega (arith, glyph_high (n % 10))), none) in
    elim (cases_Bool (n / 10 == 0)) [
      | inl e ↦ rw e here
      | inr e ↦ rw e (onto_lacks x k (n / 10) (glyph ∷ rest) low here)
    ]

-- what `decimal` is
onto_decimal : (n : ℕ) → digits_onto 64 10 false n [] ≡ decimal n
unfolding digits
onto_decimal n = refl

decimal_lacks : (x n : ℕ) → x < 48 → Lacks x (decimal n)
decimal_lacks x n low = subst (Lacks x) (onto_decimal n) (onto_lacks x 64 n [] low tt)

-- ---- large numbers have many digits

tens : ℕ → ℕ
tens zero = 1
tens (suc j) = 10 * tens j

tens_some : (j : ℕ) → 1 ≤ tens j
unfolding tens
tens_some zero = omega arith
tens_some (suc j) = omega (arith, tens_some j)

onto_grows : (k n : ℕ) (rest : List ℕ) → length rest ≤ length (digits_onto k 10 false n rest)
onto_grows zero n rest = omega arith
onto_grows (suc k) n rest = elim (cases_Bool (n / 10 == 0)) [
  | inl e ↦ rw e (omega arith)
  | inr e ↦ rw e (omega (arith, onto_grows k (n / 10) (digit_glyph false (n % 10) ∷ rest)))
]

onto_long : (j k n : ℕ) (rest : List ℕ) → j < k → tens j ≤ n → j + 1 + length rest ≤ length (digits_onto k 10 false n rest)
unfolding tens
onto_long j zero n rest low many = absurd (omega arith)
onto_long zero (suc k) n rest low many = elim (cases_Bool (n / 10 == 0)) [
  | inl e ↦ rw e (omega arith)
  | inr e ↦ rw e (omega (arith, onto_grows k (n / 10) (digit_glyph false (n % 10) ∷ rest)))
]
onto_long (suc j) (suc k) n rest low many = elim (cases_Bool (n / 10 == 0)) [
  | inl e ↦ absurd (let none : n / 10 ≡ 0 = eqb-true (n / 10) 0 e in omega (arith, many, none, tens_some j))
  | inr e ↦ rw e (omega (arith, onto_long j k (n / 10) (digit_glyph false (n % 10) ∷ rest) (omega arith) (omega (arith, many))))
]

decimal_long : (n : ℕ) → 2 ^ 64 ≤ n → 20 ≤ length (decimal n)
unfolding tens
decimal_long n large = omega (arith, onto_long 19 64 n [] (omega arith) (omega arith), ap length (onto_decimal n))

-- a number of few digits is told by them
decimal_same : (m n : ℕ) → m < 10000000000 → decimal m ≡ decimal n → m ≡ n
decimal_same m n small e =
    ⊎_elim
    (λ (low : n < 2 ^ 64). decimal_injective m n (omega arith) low e)
    (λ (large : 2 ^ 64 ≤ n). absurd (omega (arith, decimal_long n large, length-decimal-le 10 m (omega arith) (omega arith) (omega arith), ap length e)))
    (cases_lt n (2 ^ 64))

-- what stands before the first x, and what stands behind it
one_front : (x : ℕ) (a b rest other more : List ℕ) → Lacks x a → Lacks x b → a ++ x ∷ rest ≡ (b ++ x ∷ other) ++ more → (a ≡ b) × (rest ≡ other ++ more)
one_front x [] [] rest other more p q e = (refl, ap (drop 1) e)
one_front x [] (b ∷ bs) rest other more p q e = absurd (q.0 (sym (ap (λ l. get_or l 0 0) e)))
one_front x (a ∷ as') [] rest other more p q e = absurd (p.0 (ap (λ l. get_or l 0 0) e))
one_front x (a ∷ as') (b ∷ bs) rest other more p q e =
    let head : a ≡ b = ap (λ l. get_or l 0 0) e in
    let tails = one_front x as' bs rest other more p.1 q.1 (ap (drop 1) e) in
    let front : as' ≡ bs = tails.0 in
    (cc, tails.1)

number_front : (x m n : ℕ) (rest other more : List ℕ) → x < 48 → m < 10000000000 → decimal m ++ x ∷ rest ≡ (decimal n ++ x ∷ other) ++ more
    → (m ≡ n) × (rest ≡ other ++ more)
number_front x m n rest other more low small e =
    let parts = one_front x (decimal m) (decimal n) rest other more (decimal_lacks x m low) (decimal_lacks x n low) e in
    (decimal_same m n small parts.0, parts.1)

side_front : (s r : Side) (rest other more : List ℕ) → side_word s ++ 32 ∷ rest ≡ (side_word r ++ 32 ∷ other) ++ more → (s ≡ r) × (rest ≡ other ++ more)
side_front Adversary Adversary rest other more e = (refl, ap (drop 10) e)
side_front Algorithm Algorithm rest other more e = (refl, ap (drop 10) e)
side_front Adversary Algorithm rest other more e = absurd (let differ : 100 ≡ 108 = ap (λ l. get_or l 1 0) e in omega arith)
side_front Algorithm Adversary rest other more e = absurd (let differ : 108 ≡ 100 = ap (λ l. get_or l 1 0) e in omega arith)

abbrev made : ℕ → ℕ → ℕ → Side → ℕ → Accepted
made bins capacity target side nodes = record { game = numbers bins capacity target; side = side; nodes = nodes }

made_same : (b c t b' c' t' : ℕ) (s s' : Side) (n n' : ℕ) → b ≡ b' → c ≡ c' → t ≡ t' → s ≡ s' → n ≡ n' → made b c t s n ≡ made b' c' t' s' n'
made_same b c t b' c' t' s s' n n' e1 e2 e3 e4 e5 = rw (e1, e2, e3, e4, e5)

-- numbers of at most ten digits
pub record HasSmallNumbers (accepted : Accepted) : Type 0 where
  pub bins : accepted.game.bins < 10000000000
  pub capacity : accepted.game.capacity < 10000000000
  pub target : accepted.game.target < 10000000000
  pub nodes : accepted.nodes < 10000000000

-- an accepted line that begins with another is that line
pub same_line : (a b : Accepted) (more : List ℕ) → HasSmallNumbers a → accepted_line a ≡ accepted_line b ++ more → a ≡ b
same_line a b more small e =
    let side = side_front a.side b.side _ _ more (ap (drop 9) e) in
    let bins = number_front 32 a.game.bins b.game.bins _ _ more (omega arith) small.bins side.1 in
    let capacity = number_front 32 a.game.capacity b.game.capacity _ _ more (omega arith) small.capacity bins.1 in
    let target = number_front 32 a.game.target b.game.target _ _ more (omega arith) small.target capacity.1 in
    let nodes = number_front 10 a.nodes b.nodes _ _ more (omega arith) small.nodes (ap (drop 6) target.1) in
    made_same _ _ _ _ _ _ _ _ _ _ bins.0 capacity.0 target.0 side.0 nodes.0
