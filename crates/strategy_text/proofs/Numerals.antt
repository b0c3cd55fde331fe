-- A word is read as a number exactly where it is the number's decimal digits.
use Rattle.std.proofs.Common.{◌≡◌, ℕ, ◌+◌, ◌-◌, ◌*◌, ◌<◌, ◌≤◌, ◌^◌, Bool, true, false, cond, ◌&&◌, ◌==◌, List, [], ◌∷◌, length, get_or, decimal, Option, Some, None, refl, sym, ap}
use Rattle.std.proofs.Common.{◌∙◌, arith, rules, inl, inr}
use Rattle.std.proofs.lemmas.Bool.{cases_lt}
use Rattle.std.specs.Prelude.{nat_le}
use Rattle.std.specs.Char.{is_ascii_digit}
use Rattle.std.specs.Str.{all_ascii_digits}
use Rattle.std.proofs.lemmas.Str.Parse.{IsNumeralModel, numerals_by_fold}
use Rattle.std.proofs.lemmas.Fmt.{decimal-digits_value, digits_decimal, digits_value-decimal, first_decimal, decimal_nonempty, decimal_digit}
use Rattle.std.proofs.lemmas.Bool.Decides.{nat_tests}
use Rattle.strategy_text.specs.Words.{digits_after, number_of}

abbrev pub read_on : ℕ → List ℕ → ℕ
read_on n [] = n
read_on n (c ∷ cs) = read_on (10 * n + (c - 48)) cs

pub own : IsNumeralModel (λ ds. all_ascii_digits ds ≡ true) (read_on 0)
own = numerals_by_fold _ (search rules) read_on (search rules)

-- what digits that were read are
record Read (high n v : ℕ) (cs : List ℕ) : Type 0 where
  digits : all_ascii_digits cs ≡ true
  value : read_on n cs ≡ v
  low : n ≤ high → v ≤ high

digit_test : (a b : Bool) (x y : Option ℕ) (v : ℕ) → cond (a && b) x None ≡ Some v → (a ≡ true) × (b ≡ true) × (x ≡ Some v)
digit_test true true x y v e = (refl, refl, e)
digit_test true false x y v e = absurd cc
digit_test false b x y v e = absurd cc

le_test : (a b : ℕ) → nat_le a b ≡ true → a ≤ b
le_test a b e = grind (arith, nat_tests)

le_yes : (a b : ℕ) → a ≤ b → nat_le a b ≡ true
le_yes a b e = grind (arith, nat_tests)

digits_read : (high n v : ℕ) (cs : List ℕ) → digits_after high n cs ≡ Some v → Read high n v cs
digits_read high n v [] e = record { digits = refl; value = cc; low = λ h. (let z : n ≡ v = cc in omega arith) }
digits_read high n v (c ∷ cs) e =
    let t = digit_test (is_ascii_digit c) (nat_le (10 * n + (c - 48)) high) _ None v e in
    let r = digits_read high (10 * n + (c - 48)) v cs t.2 in
    record { digits = rw (t.0, r.digits) refl; value = r.value; low = λ h. r.low (le_test _ _ t.1) }

grows : (n : ℕ) (cs : List ℕ) → n ≤ read_on n cs
grows n [] = omega arith
grows n (c ∷ cs) = omega (arith, grows (10 * n + (c - 48)) cs)

pub and_parts : (a b : Bool) → (a && b) ≡ true → (a ≡ true) × (b ≡ true)
and_parts true b e = (refl, e)
and_parts false b e = absurd cc

digits_again : (high n : ℕ) (cs : List ℕ) → all_ascii_digits cs ≡ true → read_on n cs ≤ high → digits_after high n cs ≡ Some (read_on n cs)
digits_again high n [] d le = refl
digits_again high n (c ∷ cs) d le =
    let p = and_parts (is_ascii_digit c) (all_ascii_digits cs) d in
    let q = le_yes (10 * n + (c - 48)) high (omega (arith, grows (10 * n + (c - 48)) cs)) in
    rw (p.0, q) (digits_again high (10 * n + (c - 48)) cs p.1 le)

spelled : (high n : ℕ) (word : List ℕ) → high < 2 ^ 64 → 0 < length word → (get_or word 0 0 ≡ 48 → length word ≡ 1) → digits_after high 0 word ≡ Some n
    → (word ≡ decimal n) × (n ≤ high)
spelled high n word small some lead e =
    let r = digits_read high 0 n word e in
    let le : n ≤ high = r.low (omega arith) in
    let back = decimal-digits_value own word r.digits some lead (omega (arith, r.value)) in
    (sym back ∙ ap decimal r.value, le)

-- a test of which one side fails
pub none_or : (b : Bool) (x : Option ℕ) (n : ℕ) → cond b None x ≡ Some n → (b ≡ false) × (x ≡ Some n)
none_or true x n e = absurd cc
none_or false x n e = (refl, e)

not_equal : (a b : ℕ) → (a == b) ≡ false → a ≡ b → ⊥
not_equal a b e h = grind (arith, nat_tests)

unequal : (a b : ℕ) → b < a → (a == b) ≡ false
unequal a b h = grind (arith, nat_tests)

-- a word that is read as a number spells it
pub number_takes : (high n : ℕ) (word : List ℕ) → high < 2 ^ 64 → number_of high word ≡ Some n → (word ≡ decimal n) × (n ≤ high)
unfolding number_of
number_takes high n [] small e = absurd cc
number_takes high n (c ∷ []) small e = spelled high n (c ∷ []) small (omega arith) (λ _. refl) e
number_takes high n (c ∷ d ∷ cs) small e =
    let t = none_or (c == 48) _ n e in
    spelled high n (c ∷ d ∷ cs) small (omega arith) (λ z. absurd (not_equal c 48 t.0 z)) t.1

read_again : (high n : ℕ) (word : List ℕ) → high < 2 ^ 64 → n ≤ high → word ≡ decimal n → digits_after high 0 word ≡ Some n
read_again high n word small le e =
    let d : all_ascii_digits word ≡ true = rw e (digits_decimal own n (omega arith)) in
    let v : read_on 0 word ≡ n = rw e (digits_value-decimal own n (omega arith)) in
    digits_again high 0 word d (omega (arith, v)) ∙ ap (λ (m : ℕ). Some m) v

no_lead : (n c d : ℕ) (cs : List ℕ) → n < 2 ^ 64 → c ∷ d ∷ cs ≡ decimal n → (c == 48) ≡ false
no_lead n c d cs small e =
    elim (cases_lt 0 n) [
      | inl lt ↦ unequal c 48 (let f = first_decimal n lt small in let z = rw (← e) at f in z)
      | inr le ↦ (let z : n ≡ 0 = omega arith in let f : c ∷ d ∷ cs ≡ 48 ∷ [] = e ∙ ap decimal z ∙ decimal_digit 0 (omega arith) in absurd cc)
    ]

again_by : (high n : ℕ) (word : List ℕ) → high < 2 ^ 64 → n ≤ high → word ≡ decimal n → number_of high word ≡ Some n
unfolding number_of
again_by high n [] small le e = absurd (omega (arith, decimal_nonempty n (omega arith), ap length e))
again_by high n (c ∷ []) small le e = read_again high n (c ∷ []) small le e
again_by high n (c ∷ d ∷ cs) small le e =
    rw (no_lead n c d cs (omega arith) e) (read_again high n (c ∷ d ∷ cs) small le e)

-- the word of a number is read as it
pub number_again : (high n : ℕ) → high < 2 ^ 64 → n ≤ high → number_of high (decimal n) ≡ Some n
number_again high n small le = again_by high n (decimal n) small le refl
