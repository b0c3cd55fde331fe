-- What the private contracts of the command `session` cite; nothing here has to be believed.
use Rattle.std.specs.Prelude.{◌≡◌, ℕ, List, Option, Result, Ok, Err}
use Rattle.std.specs.Io.KnownBytes.{append_known}
use Rattle.port_io.specs.Faults.{Rose}
use Rattle.port_io.specs.Reading.{ReadsOn}
use Rattle.port_io.specs.Told.{AppendsSome}
use Rattle.referee_session.specs.declared.refereeing.Ending.{Ending}
use Rattle.referee_session.specs.declared.refereeing.Ending.TheVariants as endings
use Rattle.referee_session.specs.declared.refereeing.SessionFault.{SessionFault}
use Rattle.referee_session.specs.declared.refereeing.SessionFault.TheVariants.{Read, Write}
use Rattle.strategy_text.specs.declared.node.Strategy.{Strategy}
use Rattle.stretch_bench.specs.Session.{IsPartOfTalk, IsTalkCut, IsTalkOf}
use Rattle.stretch_bench.specs.declared.status.Status.{Status}
use Rattle.stretch_bench.specs.declared.status.Status.TheVariants as statuses

-- the status of a talk that came to this ending
abbrev pub status_at : Ending → Status
status_at endings.Lost = statuses.Done
status_at endings.Ended = statuses.Ended
status_at endings.Bad = statuses.BadAnswer

-- the status of what a referee gave
abbrev pub status_given : Result Ending SessionFault → Status
status_given (Ok ending) = status_at ending
status_given (Err Read) = statuses.ReadFault
status_given (Err Write) = statuses.WriteFault

-- a strategy that plays: the bytes of the input that were held before, what the source had left and has left, what the
-- sink had written and has written, and the faults of both before and after
pub record Talking : Type 0 where
  pub strategy : Strategy
  pub held : List ℕ
  pub left : Option (List ℕ)
  pub new_left : Option (List ℕ)
  pub reads_failed : ℕ
  pub new_reads_failed : ℕ
  pub written : Option (List ℕ)
  pub new_written : Option (List ℕ)
  pub writes_failed : ℕ
  pub new_writes_failed : ℕ

-- how it ended, over the bytes that follow the strategy's text
pub data IsTalked (t : Talking) (status : Status) : Type 0 where
  said_all : (ending : Ending) (rest text : List ℕ) → status ≡ status_at ending
      → ReadsOn t.held rest t.left t.new_left → IsTalkOf ending t.strategy rest t.new_left text
      → t.new_written ≡ append_known t.written text → IsTalked t status
  unanswered : (rest text : List ℕ) → status ≡ statuses.ReadFault → Rose t.reads_failed t.new_reads_failed
      → ReadsOn t.held rest t.left t.new_left → IsTalkCut t.strategy rest text
      → t.new_written ≡ append_known t.written text → IsTalked t status
  unsaid : (rest text : List ℕ) → status ≡ statuses.WriteFault → Rose t.writes_failed t.new_writes_failed
      → ReadsOn t.held rest t.left t.new_left → IsPartOfTalk t.strategy rest t.new_left text
      → AppendsSome t.written t.new_written text → IsTalked t status
  unclosed : (ending : Ending) (rest text : List ℕ) → status ≡ statuses.WriteFault
      → Rose t.writes_failed t.new_writes_failed → ReadsOn t.held rest t.left t.new_left
      → IsTalkOf ending t.strategy rest t.new_left text → AppendsSome t.written t.new_written text
      → IsTalked t status
  unbegun : status ≡ statuses.OutOfMemory → t.new_written ≡ t.written → IsTalked t status
