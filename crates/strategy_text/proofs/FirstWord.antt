-- The first word of a line and what is left after it, read byte by byte.
use Rattle.std.proofs.Common.{◌≡◌, ℕ, zero, suc, ◌+◌, ◌-◌, ◌*◌, ◌<◌, ◌≤◌, ◌==◌, true, false, List, [], ◌∷◌, length, drop, take, get_or}
use Rattle.std.proofs.Common.{Some, None, refl, sym, ap, ◌∙◌, inl, inr, arith}
use Rattle.std.specs.Prelude.{nat_le, nat_lt, ◌↔◌}
use Rattle.std.specs.Char.{is_ascii_digit}
use Rattle.std.specs.List.{slice_split, onto_first}
use Rattle.std.specs.Str.{bytes_eq}
use Rattle.std.proofs.lemmas.Bool.{cases_Bool, cases_lt, true≢false, or_parts, le-leb, lt-leb, le-ltb, lt-ltb}
use Rattle.std.proofs.lemmas.List.{drop-drop, length-drop, take_rest}
use Rattle.std.proofs.lemmas.Bool.Decides.{nat_tests}
use Rattle.std.proofs.lemmas.Slice.Eq.{bytes_eq-Decides}
use Rattle.strategy_text.specs.Words.{after, digits_after, number_at, number_of, first_word, left_after, has_space, left_from, words_left}

-- a line is its first word and the words after it
pub words_split : (bytes : List ℕ) → slice_split (λ b. b == 32) bytes ≡ first_word bytes ∷ words_left (left_after bytes)
words_split [] = refl
words_split (c ∷ cs) = elim (cases_Bool (c == 32)) [
  | inl e ↦ rw e refl
  | inr e ↦ rw e (ap (onto_first c) (words_split cs))
]

pub left_some : (bytes : List ℕ) (n : ℕ) → n ≡ length (first_word bytes) → n < length bytes → left_after bytes ≡ Some (drop (suc n) bytes)
left_some [] n e l = absurd (omega arith)
left_some (c ∷ cs) zero e l = elim (cases_Bool (c == 32)) [
  | inl s ↦ rw s refl
  | inr s ↦ absurd (let z = rw s at e in omega (arith, z))
]
left_some (c ∷ cs) (suc n) e l = elim (cases_Bool (c == 32)) [
  | inl s ↦ absurd (let z = rw s at e in omega (arith, z))
  | inr s ↦ let z = rw s at e in rw s (left_some cs n (omega (arith, z)) (omega arith))
]

pub left_none : (bytes : List ℕ) (n : ℕ) → n ≡ length (first_word bytes) → length bytes ≤ n → left_after bytes ≡ None
left_none [] n e l = refl
left_none (c ∷ cs) zero e l = absurd (omega arith)
left_none (c ∷ cs) (suc n) e l = elim (cases_Bool (c == 32)) [
  | inl s ↦ absurd (let z = rw s at e in omega (arith, z))
  | inr s ↦ let z = rw s at e in rw s (left_none cs n (omega (arith, z)) (omega arith))
]

-- what is left from a place on
left_from-within : (line : List ℕ) (at : ℕ) → at ≤ length line → left_from at line ≡ Some (drop at line)
left_from-within line at l = rw (le-leb at (length line) l) refl

pub left_from-past : (line : List ℕ) (at : ℕ) → length line < at → left_from at line ≡ None
left_from-past line at l = rw (lt-leb at (length line) l) refl

-- it is the word that begins there, and the words after it
pub words_from : (line left : List ℕ) (at : ℕ) → at ≤ length line → left ≡ drop at line
    → words_left (left_from at line) ≡ first_word left ∷ words_left (left_after left)
words_from line left at l is = ap words_left (left_from-within line at l) ∙ sym (ap (λ xs. words_left (Some xs)) is) ∙ words_split left

-- the words that a line has from a place on
pub words_split_at : (line : List ℕ) (at : ℕ) (words : List (List ℕ)) → words_left (left_from at line) ≡ words → at ≤ length line
    → let left = take (length line - at) (drop at line) in words ≡ first_word left ∷ words_left (left_after left)
words_split_at line at words is l = sym is ∙ words_from line _ at l (take_rest line at)

-- what is left past that word
pub left_from-past_word : (line left : List ℕ) (at end : ℕ) → at ≤ length line → left ≡ drop at line → end ≡ length (first_word left)
    → left_from (at + end + 1) line ≡ left_after left
left_from-past_word line left at end l is e = elim (cases_lt end (length left)) [
  | inl m ↦
      let next : at + end + 1 ≡ at + suc end = omega arith in
      left_from-within line (at + end + 1) (omega (arith, m, ap length is, length-drop at line))
      ∙ ap (λ n. Some (drop n line)) next ∙ sym (ap Some (ap (drop (suc end)) is ∙ drop-drop (suc end) at line)) ∙ sym (left_some left end e m)
  | inr m ↦ left_from-past line (at + end + 1) (omega (arith, l, m, ap length is, length-drop at line)) ∙ sym (left_none left end e m)
]

-- a list that has a first element is not empty
pub full : (n : ℕ) → (suc n == 0) ≡ false
full n = grind (arith, nat_tests)

pub some_left : (bytes : List ℕ) → false ≡ (length (words_left (Some bytes)) == 0)
some_left bytes = rw (words_split bytes) (sym (full (length (words_left (left_after bytes)))))

-- no word is left past the line's end
pub left_none_after : (line : List ℕ) (at : ℕ) → nat_lt (length line) at ≡ (length (words_left (left_from at line)) == 0)
left_none_after line at = elim (cases_lt (length line) at) [
  | inl past ↦ rw (left_from-past line at past, lt-ltb (length line) at past) refl
  | inr within ↦ le-ltb (length line) at within ∙ some_left (drop at line) ∙ sym (ap (λ left. length (words_left left) == 0) (left_from-within line at within))
]

-- digits of the first word were read up to a place
pub record DigitsUpTo (high n k : ℕ) (left bytes : List ℕ) : Type 0 where
  pub value : digits_after high n (first_word left) ≡ digits_after high 0 (first_word bytes)
  pub place : k + length (first_word left) ≡ length (first_word bytes)

pub digits_more : (high value place x : ℕ) (xs bytes : List ℕ) → (x == 32) ≡ false → is_ascii_digit x ≡ true → nat_le (10 * value + (x - 48)) high ≡ true
    → DigitsUpTo high value place (x ∷ xs) bytes → DigitsUpTo high (10 * value + (x - 48)) (place + 1) xs bytes
digits_more high value place x xs bytes s d l h =
    let v = rw (s, d, l) at h.value in
    let p = rw s at h.place in
    record { value = v; place = omega (arith, p) }

-- they end at a space or at the end
pub digits_space : (high value place x : ℕ) (xs bytes : List ℕ) → (x == 32) ≡ true → DigitsUpTo high value place (x ∷ xs) bytes
    → (digits_after high 0 (first_word bytes) ≡ Some value) × (place ≡ length (first_word bytes))
digits_space high value place x xs bytes s h =
    let v = rw s at h.value in
    let p = rw s at h.place in
    (sym v, omega (arith, p))

pub digits_end : (high value place : ℕ) (bytes : List ℕ) → DigitsUpTo high value place [] bytes
    → (digits_after high 0 (first_word bytes) ≡ Some value) × (place ≡ length (first_word bytes))
digits_end high value place bytes h = (sym h.value, omega (arith, h.place))

-- another byte, or a value above the limit
pub digits_not : (high value place x : ℕ) (xs bytes : List ℕ) → (x == 32) ≡ false → is_ascii_digit x ≡ false → DigitsUpTo high value place (x ∷ xs) bytes
    → digits_after high 0 (first_word bytes) ≡ None
digits_not high value place x xs bytes s d h = let v = rw (s, d) at h.value in sym v

pub digits_above : (high value place x : ℕ) (xs bytes : List ℕ) → (x == 32) ≡ false → is_ascii_digit x ≡ true → nat_le (10 * value + (x - 48)) high ≡ false
    → DigitsUpTo high value place (x ∷ xs) bytes → digits_after high 0 (first_word bytes) ≡ None
digits_above high value place x xs bytes s d l h = let v = rw (s, d, l) at h.value in sym v

-- numbers from digits
pub number_none : (high : ℕ) (word : List ℕ) → digits_after high 0 word ≡ None → number_of high word ≡ None
unfolding number_of
number_none high [] e = refl
number_none high (c ∷ []) e = e
number_none high (c ∷ d ∷ cs) e = elim (cases_Bool (c == 48)) [
  | inl z ↦ rw z refl
  | inr z ↦ rw z e
]

pub number_empty : (high : ℕ) (word : List ℕ) → length word ≡ 0 → number_of high word ≡ None
unfolding number_of
number_empty high [] e = refl
number_empty high (c ∷ cs) e = absurd (omega arith)

pub number_leads : (high : ℕ) (word : List ℕ) → 1 < length word → (get_or word 0 0 == 48) ≡ true → number_of high word ≡ None
unfolding number_of
number_leads high [] l e = absurd (omega arith)
number_leads high (c ∷ []) l e = absurd (omega arith)
number_leads high (c ∷ d ∷ cs) l e = rw e refl

pub number_is : (high : ℕ) (word : List ℕ) → 0 < length word → (1 < length word → (get_or word 0 0 == 48) ≡ false) → number_of high word ≡ digits_after high 0 word
unfolding number_of
number_is high [] l f = absurd (omega arith)
number_is high (c ∷ []) l f = refl
number_is high (c ∷ d ∷ cs) l f = rw (f (omega arith)) refl

pub first_byte : (bytes : List ℕ) → 0 < length (first_word bytes) → get_or bytes 0 0 ≡ get_or (first_word bytes) 0 0
first_byte [] l = refl
first_byte (c ∷ cs) l = elim (cases_Bool (c == 32)) [
  | inl s ↦ absurd (let z = rw s at l in omega (arith, z))
  | inr s ↦ rw s refl
]

-- ---- a word that is compared byte by byte

pub first_word-short : (bytes : List ℕ) → length (first_word bytes) ≤ length bytes
first_word-short [] = omega arith
first_word-short (c ∷ cs) = elim (cases_Bool (c == 32)) [
  | inl s ↦ rw s (omega arith)
  | inr s ↦ rw s (let h = first_word-short cs in omega (arith, h))
]

cons_tail : (x y : ℕ) (xs ys : List ℕ) → x ∷ xs ≡ y ∷ ys → xs ≡ ys
cons_tail x y xs ys e = ap (drop 1) e

cons_head : (x y : ℕ) (xs ys : List ℕ) → x ∷ xs ≡ y ∷ ys → x ≡ y
cons_head x y xs ys e = ap (λ zs. get_or zs 0 0) e

pub same_more : (x y : ℕ) (xs ys : List ℕ) → x ≡ y → has_space (y ∷ ys) ≡ false → (first_word (x ∷ xs) ≡ y ∷ ys) ↔ (first_word xs ≡ ys)
same_more x y xs ys e lacks =
    let s : (x == 32) ≡ false = ap (λ z. z == 32) e ∙ (or_parts (y == 32) (has_space ys) lacks).0 in
    rw s (λ h. cons_tail x y (first_word xs) ys h, λ h. ap (λ z. z ∷ first_word xs) e ∙ ap (λ zs. y ∷ zs) h)

pub other_byte : (x y : ℕ) (xs ys : List ℕ) → (x ≡ y → ⊥) → first_word (x ∷ xs) ≡ y ∷ ys → ⊥
other_byte x y xs ys ne = elim (cases_Bool (x == 32)) [
  | inl s ↦ rw s (λ h. absurd (let l = ap length h in omega (arith, l)))
  | inr s ↦ rw s (λ h. ne (cons_head x y (first_word xs) ys h))
]

pub has_space-tail : (y : ℕ) (ys : List ℕ) → has_space (y ∷ ys) ≡ false → has_space ys ≡ false
has_space-tail y ys lacks = (or_parts (y == 32) (has_space ys) lacks).1

pub too_short : (bytes word : List ℕ) → length bytes < length word → first_word bytes ≡ word → ⊥
too_short bytes word l e = omega (arith, l, first_word-short bytes, ap length e)

pub word_ends : (x : ℕ) (xs : List ℕ) → (first_word (x ∷ xs) ≡ []) ↔ ((x == 32) ≡ true)
word_ends x xs = elim (cases_Bool (x == 32)) [
  | inl s ↦ rw s (λ h. refl, λ h. refl)
  | inr s ↦ rw s (λ h. absurd (let l = ap length h in omega (arith, l)), λ h. absurd (true≢false (sym h)))
]

-- ---- what is taken from the words

pub after_other : (word w : List ℕ) (ws : List (List ℕ)) → (w ≡ word → ⊥) → after word (w ∷ ws) ≡ None
unfolding after
after_other word w ws ne = elim (cases_Bool (bytes_eq w word)) [
  | inl e ↦ absurd (ne ((bytes_eq-Decides w word).0 e))
  | inr e ↦ rw e refl
]

pub after_same : (word w : List ℕ) (ws : List (List ℕ)) → w ≡ word → after word (w ∷ ws) ≡ Some ws
unfolding after
after_same word w ws e = rw ((bytes_eq-Decides w word).1 e) refl

pub number_at-none : (high : ℕ) (w : List ℕ) (ws : List (List ℕ)) → number_of high w ≡ None → number_at high (w ∷ ws) ≡ None
unfolding number_at
number_at-none high w ws e = rw e refl

pub number_at-some : (high n : ℕ) (w : List ℕ) (ws : List (List ℕ)) → number_of high w ≡ Some n → number_at high (w ∷ ws) ≡ Some (n, ws)
unfolding number_at
number_at-some high n w ws e = rw e refl
