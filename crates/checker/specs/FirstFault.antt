use Rattle.std.specs.Prelude.{◌≡◌, ◌≢◌, ℕ, ◌+◌, ◌<◌, ◌≤◌, ◌↔◌, List, [], ◌++◌, length, All, Some, slice_get}
use Rattle.port_io.specs.Lines.{HasNoLf, IsLine, with_lf}
use Rattle.items.specs.Game.{GameNumbers, IsGame}
use Rattle.items.specs.Multiset.{AreSizes, sizes_of}
use Rattle.loads.specs.declared.position.Position.{Position}
use Rattle.strategy_text.specs.Spelling.{SpellsGame, SpellsCount}
use Rattle.strategy_text.specs.Text.{first_line, side_line, end_line, side_of, text_of, text_of_lines}
use Rattle.strategy_text.specs.declared.node.Format.{Format}
use Rattle.strategy_text.specs.declared.node.Format.TheVariants.{One}
use Rattle.strategy_text.specs.declared.node.Side.{Side}
use Rattle.strategy_text.specs.declared.node.Strategy.{Strategy}
use Rattle.strategy_text.specs.declared.rule.Rule.{Rule}
use Rattle.strategy_text.specs.declared.rule.Rule.TheVariants as rules
use Rattle.strategies.specs.AnyNode.{IsLegal}
use Rattle.checker.specs.Head.{Head, IsNodeLine, IsNodeLineAt, IsBrokenNodeLine}
use Rattle.checker.specs.Listed.{SpellsSizes, listed_line}
use Rattle.checker.specs.declared.fault.Heading.{Heading}
use Rattle.checker.specs.declared.fault.Heading.TheVariants as headings
use Rattle.checker.specs.declared.fault.Wanted.{Wanted}
use Rattle.checker.specs.declared.fault.Wanted.TheVariants.{Either, Only}
use Rattle.checker.specs.declared.fault.Why.{Why}
use Rattle.checker.specs.declared.fault.Why.TheVariants as why

-- ---- lines of bytes

-- line n of the bytes, counted from 1, is whole and has at most 16,384 bytes: it stands after n - 1 lines, each with
-- its line feed, and before its own
pub record HasLine (bytes : List ℕ) (n : ℕ) (line : List ℕ) : Type 0 where
  pub before : List (List ℕ)
  pub rest : List ℕ
  pub place : length before + 1 ≡ n
  pub lines : All HasNoLf before
  pub whole : IsLine line
  pub split : bytes ≡ text_of_lines before ++ (with_lf line ++ rest)

-- line n stands there and is of a form
abbrev pub HasForm : List ℕ → ℕ → (List ℕ → Type 0) → Type 0
HasForm bytes n Form = (line : List ℕ) × HasLine bytes n line × Form line

-- the bytes have n line feeds, so line n is whole, whatever its length, and these bytes stand after it
pub record HasWhole (bytes : List ℕ) (n : ℕ) (rest : List ℕ) : Type 0 where
  pub lines : List (List ℕ)
  pub place : length lines ≡ n
  pub each : All HasNoLf lines
  pub split : bytes ≡ text_of_lines lines ++ rest

-- bytes stand after line n
abbrev pub HasBytesPast : List ℕ → ℕ → Type 0
HasBytesPast bytes n = (rest : List ℕ) × HasWhole bytes n rest × (rest ≢ [])

-- ---- the head lines

-- a side that is wanted
abbrev pub IsWanted : Wanted → Side → Type 0
IsWanted Either side = Unit {0}
IsWanted (Only wanted) side = wanted ≡ side

-- the side that is wanted of a text
abbrev pub wanted_of : Heading → Wanted
wanted_of (headings.Strategy wanted) = wanted
wanted_of headings.Listed = Either

-- the first line of a text; one with listed sizes has format 1
abbrev pub first_of : Heading → Format → List ℕ
first_of (headings.Strategy wanted) format = first_line format
first_of headings.Listed format = listed_line

abbrev pub IsFormatOf : Heading → Format → Type 0
IsFormatOf (headings.Strategy wanted) format = Unit {0}
IsFormatOf headings.Listed format = format ≡ One

-- the line of the side, which comes after that of the sizes where there is one; that of the number of nodes is the
-- next one, and then come the nodes
abbrev pub side_place : Heading → ℕ
side_place (headings.Strategy wanted) = 3
side_place headings.Listed = 4

-- a line that names some format as the first of a text; that spells the numbers of some game, be they in its ranges or
-- not; that spells some list of sizes; that names some side; that spells some number of nodes
abbrev pub IsFirstLine : Heading → List ℕ → Type 0
IsFirstLine heading line = (format : Format) × IsFormatOf heading format × (line ≡ first_of heading format)

abbrev pub IsGameLine : List ℕ → Type 0
IsGameLine line = (game : GameNumbers) × SpellsGame line game

abbrev pub IsSizesLine : List ℕ → Type 0
IsSizesLine line = (sizes : List ℕ) × SpellsSizes line sizes

abbrev pub IsSideLine : List ℕ → Type 0
IsSideLine line = (side : Side) × (line ≡ side_line side)

abbrev pub IsCountLine : List ℕ → Type 0
IsCountLine line = (count : ℕ) × SpellsCount line count

-- the sizes that items may have: all sizes of the game, or the sizes of line 3, which are sizes of the game
abbrev pub HasSizes : Heading → List ℕ → GameNumbers → List ℕ → Type 0
HasSizes (headings.Strategy wanted) bytes game sizes = sizes ≡ sizes_of game
HasSizes headings.Listed bytes game sizes = HasForm bytes 3 (λ line. SpellsSizes line sizes) × AreSizes game.capacity sizes

-- the head lines have no fault, and tell this
pub record HasHead (heading : Heading) (bytes : List ℕ) (head : Head) : Type 0 where
  pub of_format : IsFormatOf heading head.format
  pub first : HasForm bytes 1 (λ line. line ≡ first_of heading head.format)
  pub numbers : HasForm bytes 2 (λ line. SpellsGame line head.game)
  pub of_game : IsGame head.game
  pub sizes : HasSizes heading bytes head.game head.sizes
  pub side : HasForm bytes (side_place heading) (λ line. line ≡ side_line head.side)
  pub wanted_side : IsWanted (wanted_of heading) head.side
  pub nodes : HasForm bytes (side_place heading + 1) (λ line. SpellsCount line head.count)
  pub start : head.start ≡ side_place heading + 2

-- What is wrong with a head line. It has a syntax fault where it is missing, unfinished, too long, or not of the form
-- of its place; a line of its form may break a rule. The rule of the sizes is judged where line 2 has no fault.
pub data HeadFault (heading : Heading) (bytes : List ℕ) : ℕ → Why → Type 0 where
  first_syntax : ¬ (HasForm bytes 1 (IsFirstLine heading)) → HeadFault heading bytes 1 why.Syntax
  game_syntax : ¬ (HasForm bytes 2 IsGameLine) → HeadFault heading bytes 2 why.Syntax
  game_rule : (game : GameNumbers) → HasForm bytes 2 (λ line. SpellsGame line game) → ¬ (IsGame game)
      → HeadFault heading bytes 2 (why.Rule rules.Game)
  sizes_syntax : heading ≡ headings.Listed → ¬ (HasForm bytes 3 IsSizesLine) → HeadFault heading bytes 3 why.Syntax
  sizes_rule : heading ≡ headings.Listed → (game : GameNumbers) (sizes : List ℕ)
      → HasForm bytes 2 (λ line. SpellsGame line game) → IsGame game → HasForm bytes 3 (λ line. SpellsSizes line sizes)
      → ¬ (AreSizes game.capacity sizes) → HeadFault heading bytes 3 why.Sizes
  side_syntax : ¬ (HasForm bytes (side_place heading) IsSideLine)
      → HeadFault heading bytes (side_place heading) why.Syntax
  side_rule : (side : Side) → HasForm bytes (side_place heading) (λ line. line ≡ side_line side)
      → ¬ (IsWanted (wanted_of heading) side) → HeadFault heading bytes (side_place heading) (why.Rule rules.Side)
  count_syntax : ¬ (HasForm bytes (side_place heading + 1) IsCountLine)
      → HeadFault heading bytes (side_place heading + 1) why.Syntax

-- ---- the lines after the head

-- the lines of nodes begin with nodes at these positions
abbrev pub HasPositions : List ℕ → Head → List Position → Type 0
HasPositions bytes head positions =
    (k : ℕ) (position : Position) → slice_get positions k ≡ Some position
    → HasForm bytes (head.start + k) (IsNodeLineAt head k position)

-- What is wrong with a line after this head. A rule of a node is judged where all earlier lines of nodes are of their
-- form; it cannot matter, since the least faulty line wins.
pub data BodyFault (bytes : List ℕ) (head : Head) : ℕ → Why → Type 0 where
  node_syntax : (k : ℕ) → k < head.count → ¬ (HasForm bytes (head.start + k) (IsNodeLine head k))
      → BodyFault bytes head (head.start + k) why.Syntax
  node_rule : (earlier : List Position) (rule : Rule) → length earlier < head.count → HasPositions bytes head earlier
      → HasForm bytes (head.start + length earlier) (IsBrokenNodeLine head earlier rule)
      → BodyFault bytes head (head.start + length earlier) (why.Rule rule)
  end_syntax : ¬ (HasForm bytes (head.start + head.count) (λ line. line ≡ end_line))
      → BodyFault bytes head (head.start + head.count) why.Syntax
  past_syntax : HasBytesPast bytes (head.start + head.count)
      → BodyFault bytes head (head.start + head.count + 1) why.Syntax

-- ---- faults

-- what is wrong with a line, in a text with these head lines; lines after the head are judged only where the head lines have no
-- fault
pub data LineFault (heading : Heading) (bytes : List ℕ) (line : ℕ) (fault : Why) : Type 0 where
  in_head : HeadFault heading bytes line fault → LineFault heading bytes line fault
  in_body : (head : Head) → HasHead heading bytes head → BodyFault bytes head line fault
      → LineFault heading bytes line fault

-- the first fault: a line has it, and no line before that one has any
pub record FirstFault (heading : Heading) (bytes : List ℕ) (line : ℕ) (fault : Why) : Type 0 where
  pub has : LineFault heading bytes line fault
  pub first : (earlier : ℕ) (other : Why) → earlier < line → LineFault heading bytes earlier other → ⊥

-- no line has a fault
abbrev pub HasNoFault : Heading → List ℕ → Type 0
HasNoFault heading bytes = (line : ℕ) (fault : Why) → LineFault heading bytes line fault → ⊥

-- no whole line has a fault
abbrev pub HasNoWholeFault : Heading → List ℕ → Type 0
HasNoWholeFault heading bytes =
    (line : ℕ) (rest : List ℕ) (fault : Why) → HasWhole bytes line rest → LineFault heading bytes line fault → ⊥

-- the bytes are the text of a legal strategy of a wanted side
pub record IsLegalText (wanted : Wanted) (bytes : List ℕ) : Type 0 where
  pub strategy : Strategy
  pub legal : IsLegal strategy
  pub wanted_side : IsWanted wanted (side_of strategy.nodes)
  pub spelled : bytes ≡ text_of strategy

-- ---- laws

-- a text has at most one first fault
abbrev pub OneFirstFault : Type 0
OneFirstFault =
    (heading : Heading) (bytes : List ℕ) (line other : ℕ) (fault another : Why) → FirstFault heading bytes line fault
    → FirstFault heading bytes other another → (line ≡ other) × (fault ≡ another)

-- the text of a legal strategy of a wanted side has no fault
abbrev pub LegalTextHasNoFault : Type 0
LegalTextHasNoFault = (wanted : Wanted) (bytes : List ℕ) → IsLegalText wanted bytes → HasNoFault (headings.Strategy wanted) bytes

-- the fault of a line depends on the bytes up to its line feed alone
abbrev pub FaultDependsOnLinesBefore : Type 0
FaultDependsOnLinesBefore =
    (heading : Heading) (bytes more : List ℕ) (n line : ℕ) (rest : List ℕ) (fault : Why) → HasWhole bytes n rest
    → line ≤ n → LineFault heading bytes line fault ↔ LineFault heading (bytes ++ more) line fault
