-- The lines of answers, read.
use Rattle.std.proofs.Common.{◌≡◌, ℕ, ◌<◌, ◌≤◌, List, ◌++◌, codes, decimal, Option, Some, None, MatchOption, sym, ap, ◌∙◌, arith, true, take, drop, length}
use Rattle.std.specs.Prelude.{nat_eq}
use Rattle.std.specs.Cmp.Lexicographic.{pointwise, same_text}
use Rattle.std.proofs.lemmas.List.{take-append-drop}
use Rattle.std.proofs.lemmas.Option.{none-some}
use Rattle.std.proofs.lemmas.Fmt.{decimal_injective}
use Rattle.strategy_text.specs.Words.{number_of}
use Rattle.strategy_text.proofs.Numerals.{number_again, number_takes}
use Rattle.referee_session.specs.Lines.{bin_line}

rest_of_bin : (a b : List ℕ) → codes "bin " ++ a ≡ codes "bin " ++ b → a ≡ b
rest_of_bin a b e = cc

-- what follows the word `bin` is read as the number that the line answers
pub parse_exact : (line word : List ℕ) (r : Option ℕ) → line ≡ codes "bin " ++ word → r ≡ number_of 65535 word
    → MatchOption r ((bin : ℕ) → bin ≤ 65535 → line ≡ bin_line bin → ⊥) (λ bin. (bin ≤ 65535) × (line ≡ bin_line bin))
parse_exact line word None is e = λ bin l q.
    let same : word ≡ decimal bin = rest_of_bin word (decimal bin) (sym is ∙ q) in
    none-some bin (e ∙ ap (number_of 65535) same ∙ number_again 65535 bin (omega arith) l)
parse_exact line word (Some bin) is e =
    let takes = number_takes 65535 bin word (omega arith) (sym e) in
    (takes.1, is ∙ ap (λ (xs : List ℕ). codes "bin " ++ xs) takes.0)

-- what is left after the first word
pub after_bin : (line word front : List ℕ) → front ≡ codes "bin " → pointwise nat_eq (take (length front) line) front ≡ true → word ≡ drop (length front) line
    → line ≡ codes "bin " ++ word
after_bin line word front is same rest =
    sym (take-append-drop (length front) line) ∙ ap (λ (xs : List ℕ). xs ++ drop (length front) line) (same_text (take (length front) line) front (sym same) ∙ is)
    ∙ ap (λ (xs : List ℕ). codes "bin " ++ xs) (sym rest)

-- a line that answers a bin that is none of the game answers none of the game
pub other_bin : (line : List ℕ) (bin bins : ℕ) → line ≡ bin_line bin → bins ≤ bin → bins ≤ 8 → bin ≤ 65535 → (n : ℕ) → n < bins → line ≡ bin_line n → ⊥
other_bin line bin bins is l few small n below e =
    let same : decimal bin ≡ decimal n = rest_of_bin (decimal bin) (decimal n) (sym is ∙ e) in
    omega (arith, decimal_injective bin n (omega arith) (omega arith) same)
