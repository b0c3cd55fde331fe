-- The words of a line are the words that it was joined from.
use Rattle.std.proofs.Common.{◌≡◌, ◌≢◌, ℕ, ◌<◌, ◌^◌, Bool, true, false, not, ◌&&◌, ◌==◌, List, [], ◌∷◌, ◌++◌, decimal, refl, sym, ap, ◌∙◌, arith, append_assoc}
use Rattle.strategy_text.specs.Text.{text_of_lines}
use Rattle.std.specs.List.{slice_split, join_with_byte, AllByRecursion}
use Rattle.std.proofs.lemmas.List.Elements.{All-from_recursion}
use Rattle.strategy_text.specs.Laws.{IsOneLine}
use Rattle.std.specs.Char.{is_ascii_digit}
use Rattle.std.specs.Str.{all_ascii_digits}
use Rattle.std.proofs.lemmas.Fmt.{digits_decimal}
use Rattle.std.proofs.lemmas.Bool.{and_from}
use Rattle.std.proofs.lemmas.Bool.Decides.{nat_tests}
use Rattle.std.proofs.lemmas.List.Splits.{join_with_byte-slice_split}
use Rattle.strategy_text.proofs.Numerals.{own, and_parts}

-- no byte of a word is a space or a line feed
abbrev pub is_word : List ℕ → Bool
is_word [] = true
is_word (c ∷ cs) = (not (c == 32) && not (c == 10)) && is_word cs

abbrev pub AreWords : List (List ℕ) → Type 0
AreWords [] = Unit {0}
AreWords (w ∷ ws) = (is_word w ≡ true) × AreWords ws

not_true : (b : Bool) → not b ≡ true → b ≡ false
not_true true e = absurd cc
not_true false e = refl

split_one : (w : List ℕ) → is_word w ≡ true → slice_split (λ b. b == 32) w ≡ w ∷ []
split_one [] h = refl
split_one (c ∷ cs) h =
    let p = and_parts (not (c == 32) && not (c == 10)) (is_word cs) h in
    rw (not_true (c == 32) (and_parts _ (not (c == 10)) p.0).0, split_one cs p.1) refl

split_more : (w rest : List ℕ) → is_word w ≡ true → slice_split (λ b. b == 32) (w ++ 32 ∷ rest) ≡ w ∷ slice_split (λ b. b == 32) rest
split_more [] rest h = refl
split_more (c ∷ cs) rest h =
    let p = and_parts (not (c == 32) && not (c == 10)) (is_word cs) h in
    rw (not_true (c == 32) (and_parts _ (not (c == 10)) p.0).0, split_more cs rest p.1) refl

-- a line of words has these words
pub words_again : (w : List ℕ) (ws : List (List ℕ)) → AreWords (w ∷ ws) → slice_split (λ b. b == 32) (join_with_byte 32 (w ∷ ws)) ≡ w ∷ ws
words_again w [] h = split_one w h.0
words_again w (v ∷ ws) h = split_more w (join_with_byte 32 (v ∷ ws)) h.0 ∙ ap (λ (vs : List (List ℕ)). w ∷ vs) (words_again v ws h.1)

-- a line is joined from its words
pub line_takes : (line : List ℕ) (ws : List (List ℕ)) → slice_split (λ b. b == 32) line ≡ ws → line ≡ join_with_byte 32 ws
line_takes line ws e = sym (join_with_byte-slice_split 32 line) ∙ ap (join_with_byte 32) e

digit_word : (c : ℕ) → is_ascii_digit c ≡ true → (not (c == 32) && not (c == 10)) ≡ true
digit_word c e = grind (arith, nat_tests)

digits_word : (cs : List ℕ) → all_ascii_digits cs ≡ true → is_word cs ≡ true
digits_word [] e = refl
digits_word (c ∷ cs) e =
    let p = and_parts (is_ascii_digit c) (all_ascii_digits cs) e in
    rw (digit_word c p.0, digits_word cs p.1) refl

pub decimal_word : (n : ℕ) → n < 2 ^ 64 → is_word (decimal n) ≡ true
decimal_word n small = digits_word (decimal n) (digits_decimal own n small)

pub AreWords-append : (vs ws : List (List ℕ)) → AreWords vs → AreWords ws → AreWords (vs ++ ws)
AreWords-append [] ws p q = q
AreWords-append (v ∷ vs) ws p q = (p.0, AreWords-append vs ws p.1 q)

-- ---- lines in a text

-- no byte of a line is a line feed
abbrev pub is_line : List ℕ → Bool
is_line [] = true
is_line (c ∷ cs) = not (c == 10) && is_line cs

word_line : (w : List ℕ) → is_word w ≡ true → is_line w ≡ true
word_line [] h = refl
word_line (c ∷ cs) h =
    let p = and_parts (not (c == 32) && not (c == 10)) (is_word cs) h in
    and_from (not (c == 10)) (is_line cs) (and_parts (not (c == 32)) _ p.0).1 (word_line cs p.1)

line_append : (a b : List ℕ) → is_line a ≡ true → is_line b ≡ true → is_line (a ++ b) ≡ true
line_append [] b p q = q
line_append (c ∷ cs) b p q =
    let h = and_parts (not (c == 10)) (is_line cs) p in
    and_from (not (c == 10)) (is_line (cs ++ b)) h.0 (line_append cs b h.1 q)

-- a line of words has no line feed
pub words_line : (ws : List (List ℕ)) → AreWords ws → is_line (join_with_byte 32 ws) ≡ true
words_line [] h = refl
words_line (w ∷ []) h = word_line w h.0
words_line (w ∷ v ∷ ws) h = line_append w (32 ∷ join_with_byte 32 (v ∷ ws)) (word_line w h.0) (words_line (v ∷ ws) h.1)

is_feed : (c : ℕ) → (c == 10) ≡ false → 10 ≡ c → ⊥
is_feed c h e = grind (arith, nat_tests)

feeds : (c : ℕ) (cs : List ℕ) → is_line (c ∷ cs) ≡ true → 10 ≡ c → ⊥
feeds c cs h e = is_feed c (not_true (c == 10) (and_parts (not (c == 10)) (is_line cs) h).0) e

-- a line feed ends a line in one way
pub cut : (a b x y : List ℕ) → is_line a ≡ true → is_line b ≡ true → a ++ 10 ∷ x ≡ b ++ 10 ∷ y → (a ≡ b) × (x ≡ y)
cut [] [] x y p q e = (refl, cc)
cut [] (d ∷ b) x y p q e = absurd (feeds d b q cc)
cut (c ∷ a) [] x y p q e = absurd (feeds c a p cc)
cut (c ∷ a) (d ∷ b) x y p q e =
    let head : c ≡ d = cc in
    let tail : a ++ 10 ∷ x ≡ b ++ 10 ∷ y = cc in
    let r = cut a b x y (and_parts (not (c == 10)) (is_line a) p).1 (and_parts (not (d == 10)) (is_line b) q).1 tail in
    (rw (head, r.0) refl, r.1)

regroup : (l : List ℕ) (ls : List (List ℕ)) (x : List ℕ) → l ++ 10 ∷ (text_of_lines ls ++ x) ≡ text_of_lines (l ∷ ls) ++ x
regroup l ls x = sym (append_assoc (l ++ 10 ∷ []) (text_of_lines ls) x ∙ append_assoc l (10 ∷ []) (text_of_lines ls ++ x))

-- two texts that go on in the same way begin with the same line
pub first_same : (l m : List ℕ) (ls ms : List (List ℕ)) (x y : List ℕ) → is_line l ≡ true → is_line m ≡ true → text_of_lines (l ∷ ls) ++ x ≡ text_of_lines (m ∷ ms) ++ y
    → (l ≡ m) × (text_of_lines ls ++ x ≡ text_of_lines ms ++ y)
first_same l m ls ms x y p q e =
    cut l m (text_of_lines ls ++ x) (text_of_lines ms ++ y) p q (regroup l ls x ∙ e ∙ sym (regroup m ms y))

-- no byte of a line is a line feed
not_feed : (c : ℕ) → (c == 10) ≡ false → c ≢ 10
not_feed c h e = is_feed c h (sym e)

line_recursion : (line : List ℕ) → is_line line ≡ true → AllByRecursion (λ byte. byte ≢ 10) line
line_recursion [] h = tt
line_recursion (c ∷ cs) h =
    let p = and_parts (not (c == 10)) (is_line cs) h in
    (not_feed c (not_true (c == 10) p.0), line_recursion cs p.1)

pub line_parts : (line : List ℕ) → is_line line ≡ true → IsOneLine line
line_parts line h = All-from_recursion (λ byte. byte ≢ 10) line (line_recursion line h)
