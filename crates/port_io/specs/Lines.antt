-- Lines of bytes, and what stands next.
use Rattle.std.specs.Prelude.{◌≡◌, ◌≢◌, ℕ, ◌<◌, ◌≤◌, List, [], ◌∷◌, ◌++◌, length}
use Rattle.std.specs.Prelude.{All, Option, None, Some, Result, Ok, Err}
use Rattle.std.specs.Io.KnownBytes.{prepend_known}
use Rattle.port_io.specs.declared.lines.Line.{Line}
use Rattle.port_io.specs.declared.lines.Line.TheVariants.{Text, End, TooLong, Unfinished}

-- what a reader of lines holds: the bytes read and not yet given, the line that the last call gave, or
-- nothing, and the ending that it has met
pub record ReaderState : Type 0 where
  pub held : List ℕ
  pub text : List ℕ
  pub ending : Option Line

-- the byte that ends a line
abbrev pub lf : ℕ
lf = 10

-- the most bytes that a line has, its LF not counted
abbrev pub longest_line : ℕ
longest_line = 16384

-- none of these bytes ends a line
abbrev pub HasNoLf : List ℕ → Type 0
HasNoLf bytes = All (λ b. b ≢ lf) bytes

-- the bytes are a line without its LF
pub record IsLine (line : List ℕ) : Type 0 where
  pub no_lf : HasNoLf line
  pub short : length line ≤ longest_line

-- the line with its LF
abbrev pub with_lf : List ℕ → List ℕ
with_lf line = line ++ lf ∷ []

-- What stands next in bytes that are all there are: a whole line; nothing; more bytes without an LF than
-- a line has; or some bytes without an LF.
abbrev pub StandsNext : Line → List ℕ → Type 0
StandsNext Text bytes = (line : List ℕ) × (rest : List ℕ) × IsLine line × (bytes ≡ with_lf line ++ rest)
StandsNext End bytes = bytes ≡ []
StandsNext TooLong bytes =
    (front : List ℕ) × (rest : List ℕ) × HasNoLf front × (longest_line < length front) × (bytes ≡ front ++ rest)
StandsNext Unfinished bytes = IsLine bytes × (0 < length bytes)

-- nothing else stands next than this
abbrev pub OnlyStandsNext : Line → List ℕ → Type 0
OnlyStandsNext line bytes = (other : Line) → StandsNext other bytes → line ≡ other

-- what is to come for a reader: the bytes that it holds, and then those that the source has left, where
-- the source tells them
abbrev pub to_come : ReaderState → Option (List ℕ) → Option (List ℕ)
to_come reader left = prepend_known reader.held left

-- the line that an answer gives with its LF, or nothing
abbrev pub line_given : {E : Type 0} → Result Line E → List ℕ → List ℕ
line_given (Ok Text) text = with_lf text
line_given (Ok End) text = []
line_given (Ok TooLong) text = []
line_given (Ok Unfinished) text = []
line_given (Err _) text = []

-- the ending that an answer is, if it is one
abbrev pub ending_of : Line → Option Line
ending_of Text = None
ending_of End = Some End
ending_of TooLong = Some TooLong
ending_of Unfinished = Some Unfinished

-- a line is given with `Text`, and nothing with any other answer
abbrev pub GivesText : {E : Type 0} → Result Line E → List ℕ → Type 0
GivesText (Ok Text) text = IsLine text
GivesText (Ok End) text = text ≡ []
GivesText (Ok TooLong) text = text ≡ []
GivesText (Ok Unfinished) text = text ≡ []
GivesText (Err _) text = text ≡ []
