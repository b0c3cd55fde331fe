-- What a run comes to.
use Rattle.std.specs.Prelude.{◌≡◌, ◌↔◌, ◌⊎◌, ℕ, List, [], Option, IfSome}
use Rattle.std.specs.Io.KnownBytes.{append_known}
use Rattle.checker.specs.Accepted.{BeginsWithLegalText, IsInterrupted, IsTextInterrupted}
use Rattle.checker.specs.FirstFault.{IsLegalText}
use Rattle.port_io.specs.Faults.{Rose}
use Rattle.port_io.specs.Told.{AppendsSome}
use Rattle.stretch_bench.specs.declared.command.Command.{Command}
use Rattle.stretch_bench.specs.declared.command.Command.TheVariants.{Session}
use Rattle.stretch_bench.specs.declared.status.Status.{Status}
use Rattle.stretch_bench.specs.declared.status.Status.TheVariants.{Done, ReadFault, WriteFault, OutOfMemory, Unpackable}
use Rattle.stretch_bench.specs.declared.status.Status.TheVariants.{BadAnswer, Ended, NoTransfer}
use Rattle.stretch_bench.specs.Call.{Call}
use Rattle.stretch_bench.specs.Commands.{Spells, reads_by}
use Rattle.stretch_bench.specs.Due.{IsDue}
use Rattle.stretch_bench.specs.Form.{Reads, reads_front, reads_nothing, reads_whole}
use Rattle.stretch_bench.specs.Session.{IsUnanswered, IsUnsaid}

-- a run: what it is about; the faults of the source before and after; what the sink had written and has written, and
-- its faults before and after
pub record Run : Type 0 where
  pub call : Call
  pub reads_failed : ℕ
  pub new_reads_failed : ℕ
  pub written : Option (List ℕ)
  pub new_written : Option (List ℕ)
  pub writes_failed : ℕ
  pub new_writes_failed : ℕ

-- no whole line of what was read has a fault, where a strategy of a wanted side is read; and where lines follow its
-- text, what was read does not begin with the whole text
abbrev pub IsCut : Reads → Option (List ℕ) → Option (List ℕ) → Type 0
IsCut reads_nothing left new_left = ⊥
IsCut (reads_whole wanted) left new_left = IsInterrupted wanted [] left new_left
IsCut (reads_front wanted) left new_left = IsTextInterrupted wanted [] left new_left

-- the bytes that were read for the command of the words were cut short: no whole line of them has a fault, and of a
-- session's strategy they are not the whole text
pub record IsCutShort (call : Call) : Type 0 where
  pub command : Command
  pub spells : Spells call.players call.words command
  pub cut : IsCut (reads_by call.players command) call.left call.new_left

-- a session's strategy was read, and then a read failed while an answer was asked for: what is said to the answers that
-- came was written
pub record IsSessionCut (run : Run) : Type 0 where
  pub spells : Spells run.call.players run.call.words Session
  pub unanswered : IsUnanswered run.call.left run.call.new_left run.written run.new_written

-- a session's strategy was read, and of what is said to answers that came a prefix was written, but not all of it
pub record IsSessionUnsaid (run : Run) : Type 0 where
  pub spells : Spells run.call.players run.call.words Session
  pub unsaid : IsUnsaid run.call.left run.call.new_left run.written run.new_written

-- what a run comes to
pub data IsAnswer (run : Run) (status : Status) : Type 0 where
  -- the text that is due with the status was written whole
  wrote : (text : List ℕ) → IsDue run.call status text → run.new_written ≡ append_known run.written text
      → IsAnswer run status
  -- a read failed in this run before anything was written, and no whole line of the bytes that were read has a fault;
  -- of a session's strategy not the whole text was read
  read_failed : status ≡ ReadFault → Rose run.reads_failed run.new_reads_failed → IsCutShort run.call
      → run.new_written ≡ run.written → IsAnswer run status
  -- a read failed in this run, in a session that waited for an answer
  answer_unread : status ≡ ReadFault → Rose run.reads_failed run.new_reads_failed → IsSessionCut run
      → IsAnswer run status
  -- a write failed in this run, and what was written is a prefix of a text that was due, but not all of it
  write_failed : (due : Status) (text : List ℕ) → status ≡ WriteFault → Rose run.writes_failed run.new_writes_failed
      → IsDue run.call due text → AppendsSome run.written run.new_written text → IsAnswer run status
  -- a write failed in this run, in a session that goes on
  talk_unsaid : status ≡ WriteFault → Rose run.writes_failed run.new_writes_failed → IsSessionUnsaid run
      → IsAnswer run status
  -- memory was refused before anything was written
  memory_refused : status ≡ OutOfMemory → run.new_written ≡ run.written → IsAnswer run status

-- the run was stopped by a failed read, a failed write or refused memory
abbrev pub IsStopped : Status → Type 0
IsStopped status = (status ≡ ReadFault) ⊎ (status ≡ WriteFault) ⊎ (status ≡ OutOfMemory)

-- the command was carried out, or would have been with other items, other numbers or other answers
abbrev pub IsServed : Status → Type 0
IsServed status =
    (status ≡ Done) ⊎ (status ≡ Unpackable) ⊎ (status ≡ NoTransfer) ⊎ (status ≡ Ended) ⊎ (status ≡ BadAnswer)

-- a command that reads is served exactly where the bytes are the text of a legal strategy of the side that it wants, or
-- begin with it where lines follow it
abbrev pub IsExact : Reads → Option (List ℕ) → Status → Type 0
IsExact reads_nothing left status = Unit {0}
IsExact (reads_whole wanted) left status =
    IfSome left (λ bytes. ¬ IsStopped status → IsServed status ↔ IsLegalText wanted bytes)
IsExact (reads_front wanted) left status =
    IfSome left (λ bytes. ¬ IsStopped status → IsServed status ↔ BeginsWithLegalText wanted bytes)
