-- Why a referee asks for no further answer.
use Rattle.std.specs.Prelude.{ℕ, List, []}
use Rattle.port_io.specs.Lines.{with_lf}
use Rattle.referee_session.specs.declared.refereeing.Ending.{Ending}
use Rattle.referee_session.specs.declared.refereeing.Ending.TheVariants as endings

-- the play has ended; the input ended; the next line is unfinished or too long; the next line is this one, which is no
-- answer
pub data Halt : Type 0 where
  lost : Halt
  ended : Halt
  cut : Halt
  other : (line : List ℕ) → Halt

-- what it is to the caller
abbrev pub ending_of : Halt → Ending
ending_of lost = endings.Lost
ending_of ended = endings.Ended
ending_of cut = endings.Bad
ending_of (other line) = endings.Bad

-- what was taken of the input for it, after the lines of the answers
abbrev pub taken_for : Halt → List ℕ
taken_for lost = []
taken_for ended = []
taken_for cut = []
taken_for (other line) = with_lf line
