-- Words and the commands that they spell.
use Rattle.std.proofs.Common.{◌≡◌, ◌≢◌, ◌-◌, ◌^◌, true, false, Result, Ok, Option, Some, None, IsTrue, ◌⊎◌, Bool, ⊎_elim, ◌<◌, ◌≤◌}
use Rattle.std.proofs.Common.{ℕ, List, [], ◌∷◌, length, get_or, take, drop, decimal, String, string_bytes, sym, ap, refl, ◌∙◌, subst, arith}
use Rattle.std.proofs.lemmas.List.{take_all, get_or-map, length-map}
use Rattle.std.proofs.lemmas.Fmt.{decimal_injective, parse-decimal}
use Rattle.items.specs.GameFaults.{IsFaultOf}
use Rattle.items.specs.declared.game.GameFault.{GameFault}
use Rattle.checker.proofs.HeadLemmas.{no_game as is_no_game}
use Rattle.std.specs.Str.Parse.{ParsesUnsigned}
use Rattle.std.specs.Cmp.Lexicographic.{pointwise, same_text, bytes_decides}
use Rattle.std.specs.Prelude.{MatchOption, nat_eq, not, ◌↔◌}
use Rattle.std.specs.declared.alloc.Global.{Global}
use Rattle.items.specs.Game.{GameNumbers, IsGame, numbers}
use Rattle.stretch_bench.specs.Commands.{spelling_of}

-- a text that differs from another in the test differs from it
pub other_text : (read word other : List ℕ) → read ≡ word → false ≡ pointwise nat_eq read other → word ≡ other → ⊥
other_text read word other e differ same =
    let d : false ≡ true = differ ∙ (bytes_decides read other).1 (e ∙ same) in absurd cc

-- the word at a place
pub word_at : (words : List (String Global)) (k : ℕ) (word : String Global) (read : List ℕ) → k < length words → word ≡ get_or words k word
    → read ≡ string_bytes word → get_or (spelling_of words) k [] ≡ read
word_at words k word read l at is = get_or-map string_bytes words k word [] l ∙ ap string_bytes (sym at) ∙ sym is

pub length_spelled : (words : List (String Global)) → length (spelling_of words) ≡ length words
length_spelled words = length-map words string_bytes

-- a word that differs in a test from the one that stands at its place in these words
pub other_at : (words : List (String Global)) (k : ℕ) (word : String Global) (read other : List ℕ) (list : List (List ℕ)) → k < length words
    → word ≡ get_or words k word → read ≡ string_bytes word → false ≡ pointwise nat_eq read other → get_or list k [] ≡ other → spelling_of words ≢ list
other_at words k word read other list l at is differ there e =
    other_text read read other refl differ (sym (word_at words k word read l at is) ∙ ap (λ ws. get_or ws k []) e ∙ there)

-- as many words as in another list
pub same_length : (words : List (String Global)) (list : List (List ℕ)) (n : ℕ) → length list ≡ n → (length words ≡ n → ⊥) → spelling_of words ≢ list
same_length words list n there not e = not (sym (length_spelled words) ∙ ap length e ∙ there)

-- a test that did not find a difference
pub was_same : (b : Bool) → false ≡ not b → true ≡ b
was_same true e = refl
was_same false e = absurd cc

-- a test that found one
pub was_other : (b : Bool) → true ≡ not b → false ≡ b
was_other true e = absurd cc
was_other false e = refl

-- ---- one word

pub one_of : (ws : List (List ℕ)) → length ws ≡ 1 → ws ≡ get_or ws 0 [] ∷ []
one_of [] e = absurd (omega (arith, e))
one_of (a ∷ []) e = refl
one_of (a ∷ b ∷ ws) e = absurd (omega (arith, e))

pub only_word : (words : List (String Global)) (only : String Global) (read word : List ℕ) (b : Bool) → 1 ≤ length words → length words < 2
    → only ≡ get_or words 0 only → read ≡ string_bytes only → b ≡ pointwise nat_eq read word → IsTrue b ↔ (spelling_of words ≡ word ∷ [])
only_word words only read word b low high at is test =
    let here = word_at words 0 only read (omega (arith, low)) at is in
    let one = one_of (spelling_of words) (omega (arith, length_spelled words, low, high)) in (
      λ t. one ∙ ap (λ (w : List ℕ). w ∷ []) (here ∙ same_text read word (sym t ∙ test)),
      λ e. test ∙ (bytes_decides read word).1 (sym here ∙ ap (λ ws. get_or ws 0 []) e),
    )

-- ---- more words

pub two_of : (ws : List (List ℕ)) → length ws ≡ 2 → ws ≡ get_or ws 0 [] ∷ get_or ws 1 [] ∷ []
two_of [] e = absurd (omega (arith, e))
two_of (a ∷ []) e = absurd (omega (arith, e))
two_of (a ∷ b ∷ []) e = refl
two_of (a ∷ b ∷ c ∷ ws) e = absurd (omega (arith, e))

pub two_words : (ws : List (List ℕ)) (a b : List ℕ) → length ws ≡ 2 → get_or ws 0 [] ≡ a → get_or ws 1 [] ≡ b → ws ≡ a ∷ b ∷ []
two_words ws a b n p q = two_of ws n ∙ rw (p, q) refl

pub rest_spelled : (words : List (String Global)) (first : String Global) (read word : List ℕ) → 1 ≤ length words → first ≡ get_or words 0 first
    → read ≡ string_bytes first → true ≡ pointwise nat_eq read word → spelling_of words ≡ word ∷ spelling_of (take (length words - 1) (drop 1 words))
rest_spelled [] first read word low at is same = absurd (omega (arith, low))
rest_spelled (w ∷ ws) first read word low at is same =
    let here : first ≡ w = at in
    ap (λ x. x ∷ spelling_of ws) (ap string_bytes (sym here) ∙ sym is ∙ same_text read word same)
    ∙ ap (λ l. word ∷ spelling_of l) (sym (take_all (length (w ∷ ws) - 1) ws (omega arith)))

pub three_of : (ws : List (List ℕ)) → length ws ≡ 3 → ws ≡ get_or ws 0 [] ∷ get_or ws 1 [] ∷ get_or ws 2 [] ∷ []
three_of [] e = absurd (omega (arith, e))
three_of (a ∷ []) e = absurd (omega (arith, e))
three_of (a ∷ b ∷ []) e = absurd (omega (arith, e))
three_of (a ∷ b ∷ c ∷ []) e = refl
three_of (a ∷ b ∷ c ∷ d ∷ ws) e = absurd (omega (arith, e))

pub three_words : (ws : List (List ℕ)) (a b c : List ℕ) → length ws ≡ 3 → get_or ws 0 [] ≡ a → get_or ws 1 [] ≡ b → get_or ws 2 [] ≡ c → ws ≡ a ∷ b ∷ c ∷ []
three_words ws a b c n p q r =
    three_of ws n ∙ ap (λ (w : List ℕ). w ∷ get_or ws 1 [] ∷ get_or ws 2 [] ∷ []) p ∙ ap (λ (w : List ℕ). a ∷ w ∷ get_or ws 2 [] ∷ []) q
    ∙ ap (λ (w : List ℕ). a ∷ b ∷ w ∷ []) r

pub five_of : (ws : List (List ℕ)) → length ws ≡ 5 → ws ≡ get_or ws 0 [] ∷ get_or ws 1 [] ∷ get_or ws 2 [] ∷ get_or ws 3 [] ∷ get_or ws 4 [] ∷ []
five_of [] e = absurd (omega (arith, e))
five_of (a ∷ []) e = absurd (omega (arith, e))
five_of (a ∷ b ∷ []) e = absurd (omega (arith, e))
five_of (a ∷ b ∷ c ∷ []) e = absurd (omega (arith, e))
five_of (a ∷ b ∷ c ∷ d ∷ []) e = absurd (omega (arith, e))
five_of (a ∷ b ∷ c ∷ d ∷ f ∷ []) e = refl
five_of (a ∷ b ∷ c ∷ d ∷ f ∷ g ∷ ws) e = absurd (omega (arith, e))

pub five_words : (ws : List (List ℕ)) (a b c d f : List ℕ) → length ws ≡ 5 → get_or ws 0 [] ≡ a → get_or ws 1 [] ≡ b → get_or ws 2 [] ≡ c → get_or ws 3 [] ≡ d
    → get_or ws 4 [] ≡ f → ws ≡ a ∷ b ∷ c ∷ d ∷ f ∷ []
five_words ws a b c d f n p q r s t = five_of ws n ∙ rw (p, q, r, s, t) refl

pub six_of : (ws : List (List ℕ)) → length ws ≡ 6
    → ws ≡ get_or ws 0 [] ∷ get_or ws 1 [] ∷ get_or ws 2 [] ∷ get_or ws 3 [] ∷ get_or ws 4 [] ∷ get_or ws 5 [] ∷ []
six_of [] e = absurd (omega (arith, e))
six_of (a ∷ []) e = absurd (omega (arith, e))
six_of (a ∷ b ∷ []) e = absurd (omega (arith, e))
six_of (a ∷ b ∷ c ∷ []) e = absurd (omega (arith, e))
six_of (a ∷ b ∷ c ∷ d ∷ []) e = absurd (omega (arith, e))
six_of (a ∷ b ∷ c ∷ d ∷ f ∷ []) e = absurd (omega (arith, e))
six_of (a ∷ b ∷ c ∷ d ∷ f ∷ g ∷ []) e = refl
six_of (a ∷ b ∷ c ∷ d ∷ f ∷ g ∷ h ∷ ws) e = absurd (omega (arith, e))

pub six_words : (ws : List (List ℕ)) (a b c d f g : List ℕ) → length ws ≡ 6 → get_or ws 0 [] ≡ a → get_or ws 1 [] ≡ b → get_or ws 2 [] ≡ c
    → get_or ws 3 [] ≡ d → get_or ws 4 [] ≡ f → get_or ws 5 [] ≡ g → ws ≡ a ∷ b ∷ c ∷ d ∷ f ∷ g ∷ []
six_words ws a b c d f g n p q r s t u = six_of ws n ∙ rw (p, q, r, s, t, u) refl

pub seven_of : (ws : List (List ℕ)) → length ws ≡ 7
    → ws ≡ get_or ws 0 [] ∷ get_or ws 1 [] ∷ get_or ws 2 [] ∷ get_or ws 3 [] ∷ get_or ws 4 [] ∷ get_or ws 5 [] ∷ get_or ws 6 [] ∷ []
seven_of [] e = absurd (omega (arith, e))
seven_of (a ∷ ws) e = ap (λ (l : List (List ℕ)). a ∷ l) (six_of ws (omega (arith, e)))

pub seven_words : (ws : List (List ℕ)) (a b c d f g h : List ℕ) → length ws ≡ 7 → get_or ws 0 [] ≡ a → get_or ws 1 [] ≡ b → get_or ws 2 [] ≡ c
    → get_or ws 3 [] ≡ d → get_or ws 4 [] ≡ f → get_or ws 5 [] ≡ g → get_or ws 6 [] ≡ h → ws ≡ a ∷ b ∷ c ∷ d ∷ f ∷ g ∷ h ∷ []
seven_words ws a b c d f g h n p q r s t u v = seven_of ws n ∙ rw (p, q, r, s, t, u, v) refl

pub spelled_at : (words : List (String Global)) (k : ℕ) (word : String Global) (read : List ℕ) (list : List (List ℕ)) → k < length words
    → word ≡ get_or words k word → read ≡ string_bytes word → spelling_of words ≡ list → read ≡ get_or list k []
spelled_at words k word read list l at is e = sym (word_at words k word read l at is) ∙ ap (λ (ws : List (List ℕ)). get_or ws k []) e

-- ---- numbers

-- the number that a word tells is the one that was read
pub number_told : {E : Type 0} (word : List ℕ) (n number high : ℕ) (r : Result ℕ E) → n ≤ high → high < 2 ^ 64 → ParsesUnsigned 64 10 word r → r ≡ Ok number
    → word ≡ decimal n → n ≡ number
number_told word n number high r le fits parses is e =
    let told : r ≡ Ok n = parse-decimal 64 n word r (omega (arith, le, fits)) (omega (arith, le, fits)) e parses in
    let same : Ok n ≡ Ok number = sym told ∙ is in cc

-- a word that is not read as a number tells none
pub not_read : {E : Type 0} (word : List ℕ) (low high : ℕ) (r : Result ℕ E) → high < 2 ^ 64 → ParsesUnsigned 64 10 word r → ((x : ℕ) → r ≡ Ok x → ⊥)
    → (n : ℕ) → low ≤ n → n ≤ high → word ≢ decimal n
not_read word low high r fits parses not n above below e =
    not n (parse-decimal 64 n word r (omega (arith, below, fits)) (omega (arith, below, fits)) e parses)

-- a word that is not spelled as the number that was read tells none
pub not_spelled : {E : Type 0} (word : List ℕ) (low high number : ℕ) (r : Result ℕ E) → high < 2 ^ 64 → ParsesUnsigned 64 10 word r → r ≡ Ok number
    → (word ≡ decimal number → IsTrue false) → (n : ℕ) → low ≤ n → n ≤ high → word ≢ decimal n
not_spelled word low high number r fits parses is not n above below e =
    let same = number_told word n number high r below fits parses is e in
    let wrong : false ≡ true = not (e ∙ ap decimal same) in absurd cc

-- a number that was read and is out of the bounds
pub not_within : {E : Type 0} (word : List ℕ) (low high number : ℕ) (r : Result ℕ E) → high < 2 ^ 64 → ParsesUnsigned 64 10 word r → r ≡ Ok number
    → (number < low) ⊎ (high < number) → (n : ℕ) → low ≤ n → n ≤ high → word ≢ decimal n
not_within word low high number r fits parses is out n above below e =
    let same = number_told word n number high r below fits parses is e in
    ⊎_elim (λ (under : number < low). absurd (omega (arith, same))) (λ (over : high < number). absurd (omega (arith, same))) out

-- a number after a name, as its word tells it or not
pub told_after : (words : List (List ℕ)) (name word : List ℕ) (high : ℕ) (r : Option ℕ) → words ≡ name ∷ word ∷ []
    → MatchOption r ((n : ℕ) → 1 ≤ n → n ≤ high → word ≢ decimal n) (λ n. (word ≡ decimal n) × (1 ≤ n) × (n ≤ high))
    → MatchOption r ((n : ℕ) → 1 ≤ n → n ≤ high → words ≢ name ∷ decimal n ∷ []) (λ n. (words ≡ name ∷ decimal n ∷ []) × (1 ≤ n) × (n ≤ high))
told_after words name word high None e none = λ n low up same. none n low up (ap (λ (ws : List (List ℕ)). get_or ws 1 []) (sym e ∙ same))
told_after words name word high (Some n) e told = (e ∙ ap (λ (w : List ℕ). name ∷ w ∷ []) told.0, told.1, told.2)

-- ---- games

-- words that tell numbers which are no game
pub no_game : (bins capacity target : ℕ) (game : GameNumbers) (fault : GameFault) (high : ℕ) → high ≡ 65535 → bins ≤ high → capacity ≤ high → target ≤ high
    → decimal bins ≡ decimal game.bins → decimal capacity ≡ decimal game.capacity → decimal target ≡ decimal game.target → IsGame game
    → IsFaultOf (numbers bins capacity target) fault → ⊥
no_game bins capacity target game fault high is b c t same_bins same_capacity same_target of found =
    let m = decimal_injective bins game.bins (omega (arith, is, b)) (omega (arith, of.bins.high)) same_bins in
    let g = decimal_injective capacity game.capacity (omega (arith, is, c)) (omega (arith, of.capacity.high)) same_capacity in
    let goal = decimal_injective target game.target (omega (arith, is, t)) (omega (arith, of.capacity.high, of.target.high)) same_target in
    is_no_game game fault (subst (λ (n : GameNumbers). IsFaultOf n fault) (λ i. numbers (m i) (g i) (goal i)) found) of
