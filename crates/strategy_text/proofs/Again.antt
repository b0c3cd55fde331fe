-- The words that the nodes of both sides begin with are read as what they spell.
use Rattle.std.proofs.Common.{◌≡◌, ◌≢◌, ℕ, zero, suc, ◌≤◌, Bool, true, false, ◌==◌, List, [], ◌∷◌, ◌++◌, length, map, decimal, codes, Option, Some, None, refl, ap, ◌∙◌, arith}
use Rattle.std.proofs.Common.{append_assoc, length-append}
use Rattle.std.specs.List.{flat_map, AllByRecursion}
use Rattle.std.specs.Str.{bytes_eq}
use Rattle.std.proofs.lemmas.Slice.Eq.{bytes_eq-Decides}
use Rattle.std.proofs.lemmas.Bool.Decides.{nat_tests}
use Rattle.std.proofs.lemmas.List.Elements.{recursion_from_All}
use Rattle.strategy_text.specs.Text.{list_words}
use Rattle.strategy_text.specs.Spelling.{IsNumber}
use Rattle.strategy_text.specs.Words.{number_of, after}
use Rattle.strategy_text.specs.Reading.{numbers_at, list_at, many_at, numbered_at, labelled_at, position_at}
use Rattle.strategy_text.proofs.Numerals.{number_again}
use Rattle.strategy_text.proofs.Steps.{after_again, number_at_again, some_again}
use Rattle.strategy_text.proofs.Loops.{Item, Beginning}
use Rattle.strategy_text.proofs.Taken.{numbered_words, IsPositionOfNumbers}

-- words before which a list of numbers ends
abbrev pub Ends : List (List ℕ) → Type 0
Ends [] = Unit {0}
Ends (w ∷ ws) = number_of 65535 w ≡ None

numbers_again : (xs : List ℕ) (rest : List (List ℕ)) → AllByRecursion IsNumber xs → Ends rest → numbers_at (map decimal xs ++ rest) ≡ (xs, rest)
unfolding numbers_at
numbers_again [] [] fits ends = refl
numbers_again [] (w ∷ ws) fits ends = rw ends refl
numbers_again (x ∷ xs) rest fits ends = rw (number_again 65535 x (omega arith) fits.0, numbers_again xs rest fits.1 ends) refl

differs : (a b : List ℕ) (r : Bool) → (r ≡ true → a ≡ b) → a ≢ b → r ≡ false
differs a b true h ne = absurd (ne (h refl))
differs a b false h ne = refl

pub after_none : (word w : List ℕ) (ws : List (List ℕ)) → w ≢ word → after word (w ∷ ws) ≡ None
unfolding after
after_none word w ws ne = rw (differs w word (bytes_eq w word) (bytes_eq-Decides w word).0 ne) refl

pub not_dash : (x : ℕ) → x ≤ 65535 → decimal x ≢ codes "-"
unfolding number_of
not_dash x le e =
    let a = number_again 65535 x (omega arith) le in
    let b : number_of 65535 (decimal x) ≡ None = ap (number_of 65535) e in
    cc

-- what is spelled is read again, before certain words
abbrev pub ReadsAgain : {X : Type 0} → (X → List (List ℕ)) → (X → Type 0) → (List (List ℕ) → Type 0) → (List (List ℕ) → Option (X × List (List ℕ))) → Type 0
ReadsAgain {X} spell Fits Follows item = (x : X) (rest : List (List ℕ)) → Fits x → Follows rest → item (spell x ++ rest) ≡ Some (x, rest)

pub list_again : ReadsAgain list_words (AllByRecursion IsNumber) Ends list_at
unfolding list_at
list_again [] rest fits ends = rw (after_again (codes "-") rest) refl
list_again (x ∷ xs) rest fits ends =
    rw (after_none (codes "-") (decimal x) (map decimal xs ++ rest) (not_dash x fits.0), numbers_again (x ∷ xs) rest fits ends) (some_again (x ∷ xs) rest (λ e. cc))

-- ---- values of which each has its beginning

-- the beginning of a value is found before the value
abbrev pub BeginsAgain : {X : Type 0} → List (List ℕ) → Beginning → (X → List (List ℕ)) → Type 0
BeginsAgain {X} lead begin spell = (x : X) (rest : List (List ℕ)) → begin (lead ++ (spell x ++ rest)) ≡ Some (spell x ++ rest)

follow_more : {X : Type 0} (lead : List (List ℕ)) (spell : X → List (List ℕ)) (Follows : List (List ℕ) → Type 0)
    → ((x : X) (ws : List (List ℕ)) → Follows (lead ++ (spell x ++ ws))) → (xs : List X) (rest : List (List ℕ)) → Follows rest
    → Follows (flat_map (λ x. lead ++ spell x) xs ++ rest)
follow_more lead spell Follows on [] rest h = h
follow_more lead spell Follows on (x ∷ xs) rest h =
    rw (append_assoc (lead ++ spell x) (flat_map (λ x. lead ++ spell x) xs) rest, append_assoc lead (spell x) (flat_map (λ x. lead ++ spell x) xs ++ rest))
    (on x (flat_map (λ x. lead ++ spell x) xs ++ rest))

pub many_again : {X : Type 0} (lead : List (List ℕ)) (begin : Beginning) (item : Item X) (spell : X → List (List ℕ)) (Fits : X → Type 0) (Follows : List (List ℕ) → Type 0)
    → BeginsAgain lead begin spell → ReadsAgain spell Fits Follows item → ((x : X) (ws : List (List ℕ)) → Follows (lead ++ (spell x ++ ws)))
    → (xs : List X) (rest : List (List ℕ)) (n : ℕ) → AllByRecursion Fits xs → Follows rest → begin rest ≡ None → length xs ≤ n
    → many_at begin item n (flat_map (λ x. lead ++ spell x) xs ++ rest) ≡ Some (xs, rest)
unfolding many_at
many_again lead begin item spell Fits Follows starts again on [] rest zero fits follows none le = refl
many_again lead begin item spell Fits Follows starts again on [] rest (suc n) fits follows none le = rw none refl
many_again lead begin item spell Fits Follows starts again on (x ∷ xs) rest zero fits follows none le = absurd (omega arith)
many_again lead begin item spell Fits Follows starts again on (x ∷ xs) rest (suc n) fits follows none le =
    let others = flat_map (λ x. lead ++ spell x) xs in
    let regrouped : ((lead ++ spell x) ++ others) ++ rest ≡ lead ++ (spell x ++ (others ++ rest)) = append_assoc (lead ++ spell x) others rest ∙ append_assoc lead (spell x)
    (others ++ rest) in
    ap (many_at begin item (suc n)) regrouped ∙ rw (
      starts x (others ++ rest),
      again x (others ++ rest) fits.0 (follow_more lead spell Follows on xs rest follows),
      many_again lead
          begin item spell Fits Follows starts again on xs rest n fits.1 follows none (omega arith),
    ) refl

-- there are at least as many words as values
pub many_fit : {X : Type 0} (spell : X → List (List ℕ)) (xs : List X) (rest : List (List ℕ)) → ((x : X) → 1 ≤ length (spell x)) → length xs ≤ length (flat_map spell xs ++ rest)
many_fit spell [] rest one = omega arith
many_fit spell (x ∷ xs) rest one =
    omega (
      arith,
      one x,
      many_fit spell xs rest one,
      length-append (spell x) (flat_map spell xs),
      length-append (flat_map spell xs) rest,
      length-append
          (spell x ++ flat_map spell xs) rest,
    )

-- ---- a position

same_number : (n : ℕ) → (n == n) ≡ true
same_number n = grind (arith, nat_tests)

numbered_again : (number : ℕ) (rest : List (List ℕ)) → number ≤ 4294967295 → numbered_at number (decimal number ∷ rest) ≡ Some rest
unfolding numbered_at
numbered_again number rest le = rw (number_at_again 4294967295 number rest (omega arith) le, same_number number) refl

labelled_again : (word : List ℕ) (xs : List ℕ) (rest : List (List ℕ)) → AllByRecursion IsNumber xs → Ends rest → labelled_at word ((word ∷ list_words xs) ++ rest) ≡ Some (xs, rest)
unfolding labelled_at
labelled_again word xs rest fits ends = rw (after_again word (list_words xs ++ rest)) (list_again xs rest fits ends)

items_end : (ws : List (List ℕ)) → Ends (codes "items" ∷ ws)
unfolding number_of
items_end ws = refl

-- the words of a position are read as the position, before words that end a list
pub position_again : (number : ℕ) → number ≤ 4294967295 → ReadsAgain (numbered_words number) IsPositionOfNumbers Ends (position_at number)
unfolding position_at
position_again number le position rest fits ends =
    let items = (codes "items" ∷ list_words position.1) ++ rest in
    let loads = (codes "loads" ∷ list_words position.0) ++ items in
    let parts : numbered_words number position ++ rest ≡ decimal number ∷ loads = ap (λ (t : List (List ℕ)). decimal number ∷ t)
    (append_assoc (codes "loads" ∷ list_words position.0) (codes "items" ∷ list_words position.1) rest) in
    ap (position_at number) parts ∙ rw (
      numbered_again number loads le,
      labelled_again (codes "loads") position.0 items (recursion_from_All IsNumber position.0 fits.0)
          (items_end (list_words position.1 ++ rest)),
      labelled_again (codes "items") position.1 rest (recursion_from_All IsNumber position.1 fits.1) ends,
    ) refl
