-- The lines that any command may write.
use Rattle.std.specs.Prelude.{ℕ, List, [], ◌∷◌, ◌++◌, codes, decimal}
use Rattle.checker.specs.declared.fault.Why.{Why}
use Rattle.checker.specs.declared.fault.Why.TheVariants as why
use Rattle.strategy_text.specs.Rules.{rule_word}

-- words with one space between two, and a line feed after the last
abbrev pub written_line : List (List ℕ) → List ℕ
written_line [] = 10 ∷ []
written_line (word ∷ []) = word ++ 10 ∷ []
written_line (word ∷ next ∷ words) = word ++ 32 ∷ written_line (next ∷ words)

-- the words spell no command
abbrev pub usage_line : List ℕ
usage_line = written_line (codes "usage" ∷ [])

-- what is wrong with a line
abbrev pub why_words : Why → List (List ℕ)
why_words why.Syntax = codes "syntax" ∷ []
why_words (why.Rule rule) = codes "rule" ∷ rule_word rule ∷ []
why_words why.Sizes = codes "rule" ∷ codes "sizes" ∷ []

-- the input has a fault in this line, counted from 1
abbrev pub rejected_line : ℕ → Why → List ℕ
rejected_line line fault = written_line (codes "rejected" ∷ codes "line" ∷ decimal line ∷ why_words fault)
