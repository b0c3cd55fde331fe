-- What the private contracts of a command's work cite; nothing here has to be believed.
use Rattle.std.specs.Prelude.{◌≡◌, ◌⊎◌, ℕ, List, [], ◌++◌, Option, Some, None, IfSome, Result, Ok, Err}
use Rattle.std.specs.Io.KnownBytes.{append_known}
use Rattle.checker.specs.Accepted.{IsFaultOf, IsTextFaultOf}
use Rattle.checker.specs.declared.fault.CheckFault.{CheckFault}
use Rattle.checker.specs.declared.fault.CheckFault.TheVariants as faults
use Rattle.checker.specs.declared.fault.Wanted.{Wanted}
use Rattle.port_io.specs.Faults.{Rose}
use Rattle.port_io.specs.Told.{AppendsSome}
use Rattle.strategy_text.specs.Spelling.{IsSpellable}
use Rattle.strategy_text.specs.Text.{text_of}
use Rattle.strategy_text.specs.declared.node.Strategy.{Strategy}
use Rattle.stretch_bench.specs.Call.{Players}
use Rattle.stretch_bench.specs.Due.{IsOutcome}
use Rattle.stretch_bench.specs.Form.{Reads, reads_front, reads_nothing, reads_whole}
use Rattle.stretch_bench.specs.declared.command.Command.{Command}
use Rattle.stretch_bench.specs.declared.due.Due.{Due}
use Rattle.stretch_bench.specs.declared.due.Stop.{Stop}
use Rattle.stretch_bench.specs.declared.due.Stop.TheVariants.{Read, Memory}
use Rattle.stretch_bench.specs.declared.status.Status.{Status}
use Rattle.stretch_bench.specs.declared.status.Status.TheVariants.{ReadFault, WriteFault, OutOfMemory}

-- the text of a strategy, where there is one
abbrev pub text_of_some : Option Strategy → List ℕ
text_of_some None = []
text_of_some (Some strategy) = text_of strategy

-- the text that is due: lines, and then the texts of at most two strategies
abbrev pub due_text : Due → List ℕ
due_text due = due.lines ++ (text_of_some due.first ++ text_of_some due.second)

-- what is due has a text: each strategy has one
pub record IsWritable (due : Due) : Type 0 where
  pub first : IfSome due.first IsSpellable
  pub second : IfSome due.second IsSpellable

-- this status is due, with a text of this kind
pub record IsDueWith (status : Status) (Is : List ℕ → Type 0) (due : Due) : Type 0 where
  pub status_is : due.status ≡ status
  pub writable : IsWritable due
  pub text : Is (due_text due)

-- one status is due with a text of one kind, or another with one of another
abbrev pub IsEither : Status → (List ℕ → Type 0) → Status → (List ℕ → Type 0) → Due → Type 0
IsEither status Is other Also due = IsDueWith status Is due ⊎ IsDueWith other Also due

-- a command comes to what is due
pub record IsMade (players : Players) (left new_left : Option (List ℕ)) (command : Command) (due : Due) : Type 0 where
  pub outcome : IsOutcome players left new_left command due.status (due_text due)
  pub writable : IsWritable due

-- why there is no strategy of a side, or nothing could be made of it
abbrev pub IsStop : Wanted → Option (List ℕ) → Option (List ℕ) → CheckFault → Type 0
IsStop wanted left new_left fault = (fault ≡ faults.Memory) ⊎ IsFaultOf wanted [] fault left new_left

-- the same where the input begins with the text of a strategy
abbrev pub IsFrontStop : Wanted → Option (List ℕ) → Option (List ℕ) → CheckFault → Type 0
IsFrontStop wanted left new_left fault = (fault ≡ faults.Memory) ⊎ IsTextFaultOf wanted [] fault left new_left

-- the same by what is read
abbrev pub IsStopOf : Reads → Option (List ℕ) → Option (List ℕ) → CheckFault → Type 0
IsStopOf reads_nothing left new_left fault = fault ≡ faults.Memory
IsStopOf (reads_whole wanted) left new_left fault = IsStop wanted left new_left fault
IsStopOf (reads_front wanted) left new_left fault = IsFrontStop wanted left new_left fault

-- how the writing of what was made ended, over what was written and how many writes had failed before and after
pub data IsEnding (made : Result Due Stop) (old new : Option (List ℕ)) (faults new_faults : ℕ)
    (status : Status) : Type 0 where
  all : (due : Due) → made ≡ Ok due → status ≡ due.status → new ≡ append_known old (due_text due)
      → IsEnding made old new faults new_faults status
  some : (due : Due) → made ≡ Ok due → status ≡ WriteFault → Rose faults new_faults
      → AppendsSome old new (due_text due) → IsEnding made old new faults new_faults status
  unread : made ≡ Err Read → status ≡ ReadFault → new ≡ old → IsEnding made old new faults new_faults status
  unmade : made ≡ Err Memory → status ≡ OutOfMemory → new ≡ old → IsEnding made old new faults new_faults status
