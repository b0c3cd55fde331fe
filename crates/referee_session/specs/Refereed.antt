-- What a call of the referee comes to.
use Rattle.std.specs.Prelude.{◌≡◌, ◌⊎◌, ℕ, List, [], ◌∷◌, ◌++◌, Option, Result, Ok, Err, IfSome, length, take}
use Rattle.std.specs.Io.KnownBytes.{append_known}
use Rattle.port_io.specs.Lines.{HasNoLf, ReaderState, to_come}
use Rattle.port_io.specs.Reading.{ReadsOn}
use Rattle.port_io.specs.Told.{AppendsSome}
use Rattle.adversary_graph.specs.Pools.{Pool}
use Rattle.referee_session.specs.Due.{AreAnswers, Comes, IsOver, due_text, met_by, said_in}
use Rattle.referee_session.specs.Halt.{Halt, ending_of, taken_for}
use Rattle.referee_session.specs.Lines.{answer_lines}
use Rattle.referee_session.specs.declared.refereeing.Ending.{Ending}
use Rattle.referee_session.specs.declared.refereeing.SessionFault.{SessionFault}
use Rattle.referee_session.specs.declared.refereeing.SessionFault.TheVariants.{Read, Write}

-- a call: the pool and the root of its play, and the answers of the session after it; the reader of lines, what the
-- source has left and what the sink has written, before it and after it
pub record Sitting : Type 0 where
  pub pool : Pool
  pub root : ℕ
  pub answers : List ℕ
  pub reader : ReaderState
  pub new_reader : ReaderState
  pub left : Option (List ℕ)
  pub new_left : Option (List ℕ)
  pub written : Option (List ℕ)
  pub new_written : Option (List ℕ)

-- these bytes were taken from the reader: they and what it holds now are what it held and what was read
abbrev pub Takes : Sitting → List ℕ → Type 0
Takes s taken = ReadsOn s.reader.held (taken ++ s.new_reader.held) s.left s.new_left

-- the lines that come are those of the answers, and then this: both in the bytes that were held and read, and in all
-- that is to come where the source tells it
pub record ComesTo (s : Sitting) (halt : Halt) : Type 0 where
  pub takes : Takes s (answer_lines s.answers ++ taken_for halt)
  pub in_hand : Comes s.pool s.root (met_by s.reader.ending)
      ((answer_lines s.answers ++ taken_for halt) ++ s.new_reader.held) s.answers halt
  pub in_input : IfSome (to_come s.reader s.left)
      (λ bytes. Comes s.pool s.root (met_by s.reader.ending) bytes s.answers halt)

-- the lines came to this ending, and the whole text that was due then was written
pub record HasEnding (s : Sitting) (ending : Ending) : Type 0 where
  pub halt : Halt
  pub comes : ComesTo s halt
  pub is : ending ≡ ending_of halt
  pub written : s.new_written ≡ append_known s.written (due_text s.pool s.root s.answers halt)

-- the lines given were those of the answers, each asked for
pub record HasAnswers (s : Sitting) : Type 0 where
  pub answers : AreAnswers s.pool s.root s.answers
  pub takes : Takes s (answer_lines s.answers)

-- a read failed while an answer was asked for: what is said to the answers that were given was written, and the bytes
-- that are held have no line feed
pub record StopsReading (s : Sitting) : Type 0 where
  pub has : HasAnswers s
  pub going_on : ¬ (IsOver s.pool s.root s.answers)
  pub no_lf : HasNoLf s.new_reader.held
  pub written : s.new_written ≡ append_known s.written (said_in s.pool s.root s.answers)

-- what was written before the last of these answers was asked for; nothing before the first
abbrev pub said_before_last : Pool → ℕ → List ℕ → List ℕ
said_before_last pool root [] = []
said_before_last pool root (bin ∷ bins) = said_in pool root (take (length bins) (bin ∷ bins))

-- a prefix of a text, but not all of it, was written, and at its front stands this
pub record WritesFrom (s : Sitting) (front text : List ℕ) : Type 0 where
  pub rest : List ℕ
  pub is : text ≡ front ++ rest
  pub some : AppendsSome (append_known s.written front) s.new_written rest

-- a write failed while what is said to the answers was written; what is said to all but the last of them stands written
pub record StopsSaying (s : Sitting) : Type 0 where
  pub has : HasAnswers s
  pub writes : WritesFrom s (said_before_last s.pool s.root s.answers) (said_in s.pool s.root s.answers)

-- a write failed while the line that closes the talk was written; what is said to the answers stands written
pub record StopsClosing (s : Sitting) : Type 0 where
  pub halt : Halt
  pub comes : ComesTo s halt
  pub writes : WritesFrom s (said_in s.pool s.root s.answers) (due_text s.pool s.root s.answers halt)

-- what a call comes to
abbrev pub IsOutcome : Sitting → Result Ending SessionFault → Type 0
IsOutcome s (Ok ending) = HasEnding s ending
IsOutcome s (Err Read) = StopsReading s
IsOutcome s (Err Write) = StopsSaying s ⊎ StopsClosing s
