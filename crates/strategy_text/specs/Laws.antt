-- The text of a strategy tells the strategy, and the line of a node tells the node.
use Rattle.std.specs.Prelude.{◌≡◌, ◌≢◌, ℕ, ◌≤◌, List, [], ◌++◌, All}
use Rattle.strategy_text.specs.declared.node.Format.{Format}
use Rattle.strategy_text.specs.declared.node.Strategy.{Strategy}
use Rattle.strategy_text.specs.Text.{AnyNode, node_line, end_line, strategy_lines, text_of}
use Rattle.strategy_text.specs.Spelling.{most_child, IsSpellableNode, SpellsNode, IsSpellable}

-- two strategies never have the same text
abbrev pub TextTellsStrategy : Type 0
TextTellsStrategy =
    (one other : Strategy) → IsSpellable one → IsSpellable other → text_of one ≡ text_of other → one ≡ other

-- no strategy's text is a proper prefix of another's
abbrev pub NoTextBeginsAnother : Type 0
NoTextBeginsAnother =
    (one other : Strategy) (more : List ℕ) → IsSpellable one → IsSpellable other
    → text_of one ++ more ≡ text_of other → more ≡ []

-- a line spells at most one node of a number, whichever its side
abbrev pub LineTellsNode : Type 0
LineTellsNode =
    (format : Format) (number : ℕ) (line : List ℕ) (one other : AnyNode) → number ≤ most_child
    → SpellsNode format number line one → SpellsNode format number line other → one ≡ other

-- no line of a node is the end line
abbrev pub NoNodeIsTheEnd : Type 0
NoNodeIsTheEnd =
    (format : Format) (number : ℕ) (node : AnyNode) → number ≤ most_child
    → IsSpellableNode format node → node_line number node ≢ end_line

-- no byte is a line feed
abbrev pub IsOneLine : List ℕ → Type 0
IsOneLine line = All (λ byte. byte ≢ 10) line

-- no line of a node has a line feed
abbrev pub NodesAreLines : Type 0
NodesAreLines =
    (format : Format) (number : ℕ) (node : AnyNode) → number ≤ most_child
    → IsSpellableNode format node → IsOneLine (node_line number node)

-- no line of a strategy has a line feed
abbrev pub LinesAreLines : Type 0
LinesAreLines = (strategy : Strategy) → IsSpellable strategy → All IsOneLine (strategy_lines strategy)
