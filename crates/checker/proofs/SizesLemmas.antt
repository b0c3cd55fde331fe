-- The line of the sizes: what it is read as.
use Rattle.std.proofs.Common.{◌≡◌, ◌≢◌, inl, inr, ℕ, ◌<◌, ◌≤◌, List, [], ◌∷◌, ◌++◌, length, map, take, drop, decimal, codes, Option, Some, None, All}
use Rattle.std.proofs.Common.{Bool, suc, take-append-drop, get_or, ◌==◌, ◌+◌, ◌-◌, ◌*◌, false, true, sym, ap, ◌∙◌, subst, refl, arith}
use Rattle.std.specs.Prelude.{MatchOption, nat_eq, nat_le, slice_index}
use Rattle.std.specs.Char.{is_ascii_digit}
use Rattle.strategy_text.specs.Words.{digits_after, number_of}
use Rattle.strategy_text.proofs.FirstWord.{number_empty, number_is, number_leads}
use Rattle.strategy_text.proofs.Numerals.{number_again, number_takes}
use Rattle.std.proofs.lemmas.Bool.{eq-eqb, eqb-true}
use Rattle.std.specs.Cmp.Lexicographic.{pointwise, same_text}
use Rattle.std.specs.List.{slice_split, join_with_byte, AllByRecursion}
use Rattle.std.proofs.lemmas.List.{append-nil, get_or-map, length-map, map_push}
use Rattle.std.proofs.Math.Seq.{take-suc}
use Rattle.std.proofs.lemmas.List.Elements.{All-nil, All-push, All-weaker, All-from_recursion, recursion_from_All}
use Rattle.std.proofs.lemmas.List.Splits.{join_with_byte-slice_split, length-slice_split}
use Rattle.port_io.specs.Lines.{HasNoLf}
use Rattle.items.specs.Game.{GameNumbers, IsGame}
use Rattle.items.specs.Multiset.{AreSizes, IsSize}
use Rattle.strategy_text.specs.Reading.{list_at}
use Rattle.strategy_text.specs.Spelling.{IsNumber}
use Rattle.strategy_text.specs.Text.{list_words}
use Rattle.strategy_text.proofs.Again.{list_again}
use Rattle.strategy_text.proofs.Lines.{AreWords, decimal_word, line_parts, line_takes, words_again, words_line}
use Rattle.strategy_text.proofs.Taken.{list_takes}
use Rattle.checker.specs.FirstFault.{IsSizesLine}
use Rattle.checker.specs.Listed.{SpellsSizes, sizes_line}
use Rattle.checker.proofs.DecideLemmas.{Decided, decided_by, decided_lists}

-- the words between spaces
abbrev pub words_in : List ℕ → List (List ℕ)
words_in bytes = slice_split (λ b. b == 32) bytes

numbers_words : (xs : List ℕ) → AllByRecursion IsNumber xs → AreWords (map decimal xs)
numbers_words [] h = tt
numbers_words (x ∷ xs) h = (decimal_word x (omega (arith, h.0)), numbers_words xs h.1)

lists_words : (xs : List ℕ) → AllByRecursion IsNumber xs → AreWords (list_words xs)
lists_words [] h = (refl, tt)
lists_words (x ∷ xs) h = numbers_words (x ∷ xs) h

-- a line of sizes has these words
sizes_words : (line xs : List ℕ) → SpellsSizes line xs → words_in line ≡ codes "sizes" ∷ list_words xs
unfolding sizes_line
sizes_words line xs h =
    ap words_in h.spelled ∙ words_again (codes "sizes") (list_words xs) (refl, lists_words xs (recursion_from_All IsNumber xs h.each))

sizes_from_words : (line xs : List ℕ) → All IsNumber xs → words_in line ≡ codes "sizes" ∷ list_words xs → SpellsSizes line xs
unfolding sizes_line
sizes_from_words line xs each e = record { each = each; spelled = line_takes line (codes "sizes" ∷ list_words xs) e }

-- no byte of it is a line feed
pub sizes_no_lf : (xs : List ℕ) → All IsNumber xs → HasNoLf (sizes_line xs)
unfolding sizes_line
sizes_no_lf xs each =
    line_parts (sizes_line xs) (words_line (codes "sizes" ∷ list_words xs) (refl, lists_words xs (recursion_from_All IsNumber xs each)))

list_read : (xs : List ℕ) → All IsNumber xs → list_at (list_words xs) ≡ Some (xs, [])
list_read xs each =
    subst (λ (words : List (List ℕ)). list_at words ≡ Some (xs, [])) (append-nil (list_words xs)) (list_again xs [] (recursion_from_All IsNumber xs each) tt)

-- what was taken, and what was left
taken_of : Option (List ℕ × List (List ℕ)) → List ℕ
taken_of None = []
taken_of (Some x) = x.0

left_of : Option (List ℕ × List (List ℕ)) → List (List ℕ)
left_of None = []
left_of (Some x) = x.1

-- a line spells one list of sizes
pub sizes_told : (line xs ys : List ℕ) → SpellsSizes line xs → SpellsSizes line ys → xs ≡ ys
unfolding taken_of
sizes_told line xs ys a b =
    let words : list_words xs ≡ list_words ys = ap (drop 1) (sym (sizes_words line xs a) ∙ sizes_words line ys b) in
    ap taken_of (sym (list_read xs a.each) ∙ ap list_at words ∙ list_read ys b.each)

-- sizes of a game are numbers of a line
pub numbers_from_sizes : (game : GameNumbers) (xs : List ℕ) → IsGame game → AreSizes game.capacity xs → All IsNumber xs
numbers_from_sizes game xs g h = All-weaker (IsSize game.capacity) IsNumber (λ x s. omega (arith, s.high, g.capacity.high)) xs h.sizes

-- ---- whether a line is one

-- a list of numbers, spelled by all of these words
abbrev IsListOf : List (List ℕ) → Type 0
IsListOf words = (xs : List ℕ) × All IsNumber xs × (words ≡ list_words xs)

other_list : (words : List (List ℕ)) (o : Option (List ℕ × List (List ℕ))) → list_at words ≡ o → ((xs : List ℕ) → o ≡ Some (xs, []) → ⊥) → IsListOf words → ⊥
other_list words o e never h = never h.0 (sym e ∙ ap list_at h.2 ∙ list_read h.0 h.1)

list_from : (words : List (List ℕ)) (o : Option (List ℕ × List (List ℕ))) → list_at words ≡ o → Decided (IsListOf words)
unfolding left_of
list_from words None e = inr (other_list words None e (λ xs f. (let none : None ≡ Some (xs, []) = f in absurd cc)))
list_from words (Some (xs, [])) e =
    let t = list_takes words (xs, []) e in
    inl (xs, All-from_recursion IsNumber xs t.fits, t.parts ∙ append-nil (list_words xs))
list_from words (Some (xs, w ∷ ws)) e = inr (other_list words (Some (xs, w ∷ ws)) e (λ ys f. (let rest : w ∷ ws ≡ [] = ap left_of f in absurd (omega (arith, ap length rest)))))

label_from : (line w : List ℕ) (ws : List (List ℕ)) → words_in line ≡ w ∷ ws → Decided (w ≡ codes "sizes") → Decided (IsListOf ws) → Decided (IsSizesLine line)
label_from line w ws e (inr other) d = inr (λ h. (let same : w ≡ codes "sizes" = (let words = sym e ∙ sizes_words line h.0 h.1 in cc) in other same))
label_from line w ws e (inl label) (inl list) = inl (list.0, sizes_from_words line list.0 list.1 (e ∙ ap (λ (x : List ℕ). x ∷ ws) label ∙ ap (λ (xs : List (List ℕ)). codes "sizes" ∷ xs) list.2))
label_from line w ws e (inl label) (inr none) = inr (λ h. none (h.0, h.1.each, ap (drop 1) (sym e ∙ sizes_words line h.0 h.1)))

line_from : (line : List ℕ) (words : List (List ℕ)) → words_in line ≡ words → Decided (IsSizesLine line)
line_from line [] e = inr (λ h. (let none : [] ≡ codes "sizes" ∷ list_words h.0 = sym e ∙ sizes_words line h.0 h.1 in absurd (omega (arith, ap length none))))
line_from line (w ∷ ws) e = label_from line w ws e (decided_lists w (codes "sizes")) (list_from ws (list_at ws) refl)

pub decided_sizes : (line : List ℕ) → Decided (IsSizesLine line)
decided_sizes line = line_from line (words_in line) refl

-- ---- what is read of a line

-- a line of sizes is its name and its list
sizes_parts : (xs : List ℕ) → sizes_line xs ≡ codes "sizes " ++ join_with_byte 32 (list_words xs)
unfolding sizes_line
sizes_parts [] = refl
sizes_parts (x ∷ xs) = refl

-- another line does not begin so
pub no_label : (line : List ℕ) → pointwise nat_eq (take 6 line) (codes "sizes ") ≡ false → (xs : List ℕ) → SpellsSizes line xs → ⊥
no_label line e xs h =
    let begins : take 6 line ≡ codes "sizes " = ap (take 6) (h.spelled ∙ sizes_parts xs) in
    let same : pointwise nat_eq (take 6 line) (codes "sizes ") ≡ true = ap (λ (front : List ℕ). pointwise nat_eq front (codes "sizes ")) begins in
    absurd cc

pub none_spelled : (line : List ℕ) → line ≡ codes "sizes " ++ codes "-" → SpellsSizes line []
unfolding sizes_line
none_spelled line e = record { each = All-nil IsNumber; spelled = e }

list_of : (line list xs : List ℕ) → line ≡ codes "sizes " ++ list → SpellsSizes line xs → list ≡ join_with_byte 32 (list_words xs)
list_of line list xs e h = ap (drop 6) (sym e ∙ h.spelled ∙ sizes_parts xs)

-- what the words of a list that is no dash are read as
abbrev WordsTell : List (List ℕ) → Option (List ℕ) → Type 0
WordsTell words found =
    MatchOption found ((xs : List ℕ) → All IsNumber xs → words ≢ map decimal xs) (λ xs. (words ≡ map decimal xs) × All IsNumber xs)

some_told : (line list : List ℕ) (words : List (List ℕ)) (xs : List ℕ) → line ≡ codes "sizes " ++ list → words ≡ words_in list → words ≡ map decimal xs → All IsNumber xs
    → SpellsSizes line xs
some_told line list words [] e split told each =
    let none : words_in list ≡ [] = sym split ∙ told in absurd (omega (arith, ap length none, length-slice_split (λ b. b == 32) list))
some_told line list words (x ∷ xs) e split told each = record {
  each = each;
  spelled = e ∙ ap (λ (l : List ℕ). codes "sizes " ++ l) (line_takes list (map decimal (x ∷ xs)) (sym split ∙ told)) ∙ sym (sizes_parts (x ∷ xs));
}

none_told : (line list : List ℕ) (words : List (List ℕ)) (xs : List ℕ) → line ≡ codes "sizes " ++ list → (list ≡ codes "-" → ⊥) → words ≡ words_in list
    → ((ys : List ℕ) → All IsNumber ys → words ≢ map decimal ys) → SpellsSizes line xs → ⊥
none_told line list words [] e some split never h = some (list_of line list [] e h)
none_told line list words (x ∷ xs) e some split never h =
    never (x ∷ xs) h.each
    (split ∙ ap words_in (list_of line list (x ∷ xs) e h) ∙ words_again (decimal x) (map decimal xs) (numbers_words (x ∷ xs) (recursion_from_All IsNumber (x ∷ xs) h.each)))

pub sizes_read : (line list : List ℕ) (words : List (List ℕ)) (found : Option (List ℕ)) → line ≡ codes "sizes " ++ list → (list ≡ codes "-" → ⊥) → words ≡ words_in list
    → WordsTell words found → MatchOption found ((xs : List ℕ) → SpellsSizes line xs → ⊥) (SpellsSizes line)
sizes_read line list words None e some split h = λ xs. none_told line list words xs e some split h
sizes_read line list words (Some xs) e some split h = some_told line list words xs e split h.0 h.1

-- ---- the digits of a number

-- what is left of a word's digits gives its value, after the value so far
pub record DigitsSoFar (value : ℕ) (left word : List ℕ) : Type 0 where
  pub same : digits_after 65535 value left ≡ digits_after 65535 0 word

pub digits_go_on : (value x : ℕ) (xs word : List ℕ) → is_ascii_digit x ≡ true → nat_le (10 * value + (x - 48)) 65535 ≡ true → DigitsSoFar value (x ∷ xs) word
    → DigitsSoFar (10 * value + (x - 48)) xs word
digits_go_on value x xs word d l h = let v = rw (d, l) at h.same in record { same = v }

pub digits_end : (value : ℕ) (word : List ℕ) → DigitsSoFar value [] word → digits_after 65535 0 word ≡ Some value
digits_end value word h = sym h.same

pub digits_other : (value x : ℕ) (xs word : List ℕ) → is_ascii_digit x ≡ false → DigitsSoFar value (x ∷ xs) word → digits_after 65535 0 word ≡ None
digits_other value x xs word d h = let v = rw d at h.same in sym v

pub digits_above : (value x : ℕ) (xs word : List ℕ) → is_ascii_digit x ≡ true → nat_le (10 * value + (x - 48)) 65535 ≡ false → DigitsSoFar value (x ∷ xs) word
    → digits_after 65535 0 word ≡ None
digits_above value x xs word d l h = let v = rw (d, l) at h.same in sym v

-- a word of digits without a leading zero
pub empty_is_none : (word : List ℕ) → (length word == 0) ≡ true → number_of 65535 word ≡ None
empty_is_none word e = number_empty 65535 word (eqb-true (length word) 0 e)

pub led_is_none : (word : List ℕ) → (1 < length word) × (slice_index word 0 ≡ 48) → number_of 65535 word ≡ None
led_is_none word led = number_leads 65535 word led.0 (eq-eqb (get_or word 0 0) 48 led.1)

other_first : (word : List ℕ) (b : Bool) → (get_or word 0 0 == 48) ≡ b → ((1 < length word) × (slice_index word 0 ≡ 48) → ⊥) → 1 < length word → (get_or word 0 0 == 48) ≡ false
other_first word true e never l = absurd (never (l, eqb-true (get_or word 0 0) 48 e))
other_first word false e never l = e

some_length : (word : List ℕ) → (length word == 0) ≡ false → 0 < length word
some_length [] e = absurd cc
some_length (x ∷ xs) e = omega arith

pub plain_number : (word : List ℕ) (found : Option ℕ) → (length word == 0) ≡ false → ((1 < length word) × (slice_index word 0 ≡ 48) → ⊥)
    → MatchOption found (digits_after 65535 0 word ≡ None) (λ n. digits_after 65535 0 word ≡ Some n)
    → MatchOption found (number_of 65535 word ≡ None) (λ n. number_of 65535 word ≡ Some n)
plain_number word found some never h =
    subst (λ (o : Option ℕ). MatchOption found (o ≡ None) (λ n. o ≡ Some n))
    (sym (number_is 65535 word (some_length word some) (other_first word (get_or word 0 0 == 48) refl never))) h

-- words that are read one by one
module _ {X : Type 0} (word : X → List ℕ) (words given : List X) (k : ℕ) (d : X) (same : given ≡ words) (low : k < length given) where
  -- one that spells no number
  pub no_number : number_of 65535 (word (get_or given k d)) ≡ None → (xs : List ℕ) → All IsNumber xs → map word words ≢ map decimal xs
  no_number none xs each e =
      let count : length words ≡ length xs = sym (length-map words word) ∙ ap length e ∙ length-map xs decimal in
      let within : k < length xs = omega (arith, low, ap length same, count) in
      let spelled : word (get_or given k d) ≡ decimal (get_or xs k 0) = ap (λ (ws : List X). word (get_or ws k d)) same
      ∙ sym (get_or-map word words k d [] (omega (arith, low, ap length same))) ∙ ap (λ (ws : List (List ℕ)). get_or ws k []) e ∙ get_or-map decimal xs k 0 [] within in
      let read = number_again 65535 (get_or xs k 0) (omega arith) (each k 0 within) in
      let other : None ≡ Some (get_or xs k 0) = sym none ∙ ap (number_of 65535) spelled ∙ read in
      absurd cc

  -- one that spells a number, after others
  pub numbers_push : (n : ℕ) (list new : List ℕ) → number_of 65535 (word (get_or given k d)) ≡ Some n → new ≡ list ++ n ∷ []
      → (map word (take k words) ≡ map decimal list) × All IsNumber list → (map word (take (k + 1) words) ≡ map decimal new) × All IsNumber new
  numbers_push n list new read put so_far =
      let t = number_takes 65535 n (word (get_or given k d)) (omega arith) read in
      let next : k + 1 ≡ suc k = omega arith in
      let front : take (k + 1) words ≡ take k words ++ get_or words k d ∷ [] = ap (λ (i : ℕ). take i words) next ∙ take-suc words k d (omega (arith, low, ap length same)) in
      let here : word (get_or words k d) ≡ decimal n = ap (λ (ws : List X). word (get_or ws k d)) (sym same) ∙ t.0 in (
        ap (map word) front ∙ map_push word (take k words) (get_or words k d) ∙ ap (λ (ws : List (List ℕ)). ws ++ word (get_or words k d) ∷ []) so_far.0
            ∙ ap (λ (w : List ℕ). map decimal list ++ w ∷ []) here ∙ sym (map_push decimal list n) ∙ ap (map decimal) (sym put),
        subst (All IsNumber) (sym put) (All-push IsNumber list n so_far.1 t.1),
      )

-- ---- the line

pub prefix_is : (line list front : List ℕ) → front ≡ codes "sizes " → pointwise nat_eq (take (length front) line) front ≡ true → list ≡ drop (length front) line
    → line ≡ codes "sizes " ++ list
prefix_is line list front e same rest =
    sym (take-append-drop (length front) line) ∙ ap (λ (x : List ℕ). x ++ drop (length front) line) (same_text (take (length front) line) front (sym same) ∙ e)
    ∙ ap (λ (x : List ℕ). codes "sizes " ++ x) (sym rest)

pub no_prefix : (line front : List ℕ) → front ≡ codes "sizes " → pointwise nat_eq (take (length front) line) front ≡ false → (xs : List ℕ) → SpellsSizes line xs → ⊥
no_prefix line front e differs =
    no_label line (subst (λ (f : List ℕ). pointwise nat_eq (take (length f) line) f ≡ false) e differs)
