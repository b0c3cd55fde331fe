-- What the private contracts of reading an answer cite; nothing here has to be believed.
use Rattle.std.specs.Prelude.{◌≡◌, ◌⊎◌, ℕ, ◌<◌, List, ◌++◌, Option, None, IfSome}
use Rattle.port_io.specs.declared.lines.Line.{Line}
use Rattle.port_io.specs.declared.lines.Line.TheVariants as lines
use Rattle.port_io.specs.Lines.{HasNoLf, IsLine, ReaderState, to_come, with_lf}
use Rattle.port_io.specs.Reading.{ReadsOn}
use Rattle.referee_session.specs.Due.{ComesNext, met_by}
use Rattle.referee_session.specs.Lines.{bin_line}
use Rattle.referee_session.specs.declared.answer.Next.{Next}
use Rattle.referee_session.specs.declared.answer.Next.TheVariants.{Bin, End, Cut, Other}

-- a call that asks for an answer of so many bins: the reader of lines and what the source has left, before it and
-- after it
pub record Asking : Type 0 where
  pub bins : ℕ
  pub reader : ReaderState
  pub new_reader : ReaderState
  pub left : Option (List ℕ)
  pub new_left : Option (List ℕ)

-- this line was given, by a reader that has met no ending
pub record Gives (a : Asking) (line : List ℕ) : Type 0 where
  pub unmet : met_by a.reader.ending ≡ None
  pub still : met_by a.new_reader.ending ≡ None
  pub reads : ReadsOn a.reader.held (with_lf line ++ a.new_reader.held) a.left a.new_left

-- no line was given, as this comes next
pub record Meets (a : Asking) (line : Line) : Type 0 where
  pub reads : ReadsOn a.reader.held a.new_reader.held a.left a.new_left
  pub shown : ComesNext (met_by a.reader.ending) line a.new_reader.held
  pub input : IfSome (to_come a.reader a.left) (λ bytes. ComesNext (met_by a.reader.ending) line bytes)

-- a line was given that is no answer
pub record GivesOther (a : Asking) (line : List ℕ) : Type 0 where
  pub gives : Gives a line
  pub is_line : IsLine line
  pub no_answer : (bin : ℕ) → bin < a.bins → line ≡ bin_line bin → ⊥

-- what comes next
abbrev pub IsNext : Asking → Next → Type 0
IsNext a (Bin bin) = Gives a (bin_line bin) × (bin < a.bins)
IsNext a End = Meets a lines.End
IsNext a Cut = Meets a lines.Unfinished ⊎ Meets a lines.TooLong
IsNext a Other = (line : List ℕ) × GivesOther a line

-- a read failed
pub record StopsAsking (a : Asking) : Type 0 where
  pub reads : ReadsOn a.reader.held a.new_reader.held a.left a.new_left
  pub no_lf : HasNoLf a.new_reader.held
