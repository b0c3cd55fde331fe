-- What holds of the text of every legal strategy, and of every text.
use Rattle.std.specs.Prelude.{◌≡◌, ◌⊎◌, ◌↔◌, ℕ, List, [], ◌++◌, All}
use Rattle.port_io.specs.Lines.{IsLine}
use Rattle.strategy_text.specs.Spelling.{IsSpellable}
use Rattle.strategy_text.specs.Text.{strategy_lines, text_of}
use Rattle.strategy_text.specs.declared.node.Strategy.{Strategy}
use Rattle.checker.specs.FirstFault.{FirstFault, HasNoFault, IsLegalText}
use Rattle.strategies.specs.AnyNode.{IsLegal}
use Rattle.checker.specs.Listed.{IsLegalListedText}
use Rattle.checker.specs.declared.fault.Heading.{Heading}
use Rattle.checker.specs.declared.fault.Heading.TheVariants as headings
use Rattle.checker.specs.declared.fault.Wanted.{Wanted}
use Rattle.checker.specs.declared.fault.Why.{Why}

-- each legal strategy has a text
abbrev pub LegalIsSpellable : Type 0
LegalIsSpellable = (strategy : Strategy) → IsLegal strategy → IsSpellable strategy

-- each line of a legal strategy's text has no line feed and at most 16,384 bytes
abbrev pub LegalLinesAreLines : Type 0
LegalLinesAreLines = (strategy : Strategy) → IsLegal strategy → All IsLine (strategy_lines strategy)

-- two legal strategies never have the same text
abbrev pub LegalTextTellsStrategy : Type 0
LegalTextTellsStrategy =
    (one other : Strategy) → IsLegal one → IsLegal other → text_of one ≡ text_of other → one ≡ other

-- no legal strategy's text is a proper prefix of another's
abbrev pub NoLegalTextBeginsAnother : Type 0
NoLegalTextBeginsAnother =
    (one other : Strategy) (more : List ℕ) → IsLegal one → IsLegal other
    → text_of one ++ more ≡ text_of other → more ≡ []

-- a text has a first fault
abbrev pub HasFirstFault : Heading → List ℕ → Type 0
HasFirstFault heading bytes = (line : ℕ) × (fault : Why) × FirstFault heading bytes line fault

-- each text has a first fault, or no line of it has a fault
abbrev pub EveryTextHasAFirstFaultOrNone : Type 0
EveryTextHasAFirstFaultOrNone =
    (heading : Heading) (bytes : List ℕ) → HasFirstFault heading bytes ⊎ HasNoFault heading bytes

-- the texts without a fault are exactly those of legal strategies of a wanted side
abbrev pub OnlyLegalTextsHaveNoFault : Type 0
OnlyLegalTextsHaveNoFault =
    (wanted : Wanted) (bytes : List ℕ) → HasNoFault (headings.Strategy wanted) bytes ↔ IsLegalText wanted bytes

-- the texts with listed sizes that have no fault are exactly those of legal strategies with listed sizes
abbrev pub OnlyLegalListedTextsHaveNoFault : Type 0
OnlyLegalListedTextsHaveNoFault = (bytes : List ℕ) → HasNoFault headings.Listed bytes ↔ IsLegalListedText bytes
