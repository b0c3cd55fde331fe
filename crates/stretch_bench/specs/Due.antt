-- What a run is asked for: a status, and the text that is written with it.
use Rattle.std.specs.Prelude.{◌≡◌, ℕ, List, [], Option}
use Rattle.checker.specs.Accepted.{Rejects, RejectsTextLine}
use Rattle.checker.specs.declared.fault.Wanted.{Wanted}
use Rattle.checker.specs.declared.fault.Wanted.TheVariants.{Either, Only}
use Rattle.checker.specs.declared.fault.Why.{Why}
use Rattle.items.specs.Game.{GameNumbers}
use Rattle.referee_session.specs.declared.refereeing.Ending.TheVariants as endings
use Rattle.strategy_text.specs.declared.node.Side.TheVariants.{Adversary, Algorithm}
use Rattle.stretch_bench.specs.declared.command.Command.{Command}
use Rattle.stretch_bench.specs.declared.command.Command.TheVariants as commands
use Rattle.stretch_bench.specs.declared.status.Status.{Status}
use Rattle.stretch_bench.specs.declared.status.Status.TheVariants.{Done, NoTransfer, Rejected, Usage}
use Rattle.stretch_bench.specs.declared.status.Status.TheVariants.{NotFound, Undecided, Unpackable}
use Rattle.stretch_bench.specs.declared.status.Status.TheVariants as statuses
use Rattle.stretch_bench.specs.Answer.{IsUnpackable}
use Rattle.stretch_bench.specs.Call.{Call, Players}
use Rattle.stretch_bench.specs.Commands.{Spells, SpellsNone, form_of, reads_by}
use Rattle.stretch_bench.specs.Form.{IsDone, IsRead, IsReadFirst, reads_front, reads_whole}
use Rattle.stretch_bench.specs.Lines.{rejected_line, usage_line}
use Rattle.stretch_bench.specs.Search.{IsUndecided}
use Rattle.stretch_bench.specs.Session.{IsTalkOf}
use Rattle.stretch_bench.specs.Scale.{IsUnscaled}
use Rattle.stretch_bench.specs.Weaken.{IsUnweakened}
use Rattle.stretch_bench.specs.Value.{IsUnvalued}
use Rattle.stretch_bench.specs.Force.{IsNotFound}

-- a fault was found, the first one of the bytes read and of the whole input
pub record IsRejected (wanted : Wanted) (left new_left : Option (List ℕ)) (text : List ℕ) : Type 0 where
  pub at : ℕ
  pub why : Why
  pub rejects : Rejects wanted [] at why left new_left
  pub line : text ≡ rejected_line at why

-- the same in a line of the text that the input begins with
pub record IsFrontRejected (wanted : Wanted) (left new_left : Option (List ℕ)) (text : List ℕ) : Type 0 where
  pub at : ℕ
  pub why : Why
  pub rejects : RejectsTextLine wanted [] at why left new_left
  pub line : text ≡ rejected_line at why

-- what a command comes to, over what the source had left and has left
pub data IsOutcome (players : Players) (left new_left : Option (List ℕ)) (command : Command) (status : Status)
    (text : List ℕ) : Type 0 where
  -- it was done
  done : status ≡ Done → IsDone (form_of players command).work left new_left text
      → IsOutcome players left new_left command status text
  -- the input is no text of a legal strategy of the side that it wants
  rejected : (wanted : Wanted) → status ≡ Rejected → reads_by players command ≡ reads_whole wanted
      → IsRejected wanted left new_left text → IsOutcome players left new_left command status text
  -- the input does not begin with the text of one
  rejected_front : (wanted : Wanted) → status ≡ Rejected → reads_by players command ≡ reads_front wanted
      → IsFrontRejected wanted left new_left text → IsOutcome players left new_left command status text
  -- the items to be answered are not packable
  unpackable : (items : List ℕ) → status ≡ Unpackable → command ≡ commands.Answer items
      → IsRead (Only Algorithm) left new_left (λ strategy. IsUnpackable items strategy text)
      → IsOutcome players left new_left command status text
  -- the budget of a search was spent
  undecided : (game : GameNumbers) (budget table : ℕ) → status ≡ Undecided
      → command ≡ commands.Search game budget table → new_left ≡ left → IsUndecided game budget table text
      → IsOutcome players left new_left command status text
  -- the input of a session ended before the play did
  input_ended : status ≡ statuses.Ended → command ≡ commands.Session
      → IsReadFirst (Only Adversary) left new_left (λ strategy rest. IsTalkOf endings.Ended strategy rest new_left text)
      → IsOutcome players left new_left command status text
  -- a line of a session is no answer
  bad_answer : status ≡ statuses.BadAnswer → command ≡ commands.Session
      → IsReadFirst (Only Adversary) left new_left (λ strategy rest. IsTalkOf endings.Bad strategy rest new_left text)
      → IsOutcome players left new_left command status text
  -- the strategy cannot be moved to the greater game
  unscaled : (factor : ℕ) → status ≡ NoTransfer → command ≡ commands.Scale factor
      → IsRead (Only Adversary) left new_left (λ strategy. IsUnscaled factor strategy text)
      → IsOutcome players left new_left command status text
  -- it cannot be moved to the target
  unweakened : (target : ℕ) → status ≡ NoTransfer → command ≡ commands.Weaken target
      → IsRead Either left new_left (λ strategy. IsUnweakened target strategy text)
      → IsOutcome players left new_left command status text
  -- the budget of the search of a target was spent
  unvalued : (bins capacity budget table : ℕ) → status ≡ Undecided
      → command ≡ commands.Value bins capacity budget table → new_left ≡ left
      → IsUnvalued bins capacity budget table text → IsOutcome players left new_left command status text
  -- a search for the adversary's side found no strategy
  not_found : (game : GameNumbers) (pass budget table : ℕ) → status ≡ NotFound
      → command ≡ commands.Force game pass budget table → new_left ≡ left → IsNotFound game budget text
      → IsOutcome players left new_left command status text

-- what a run is asked for
pub data IsDue (call : Call) (status : Status) (text : List ℕ) : Type 0 where
  -- what the command comes to that the words spell
  commanded : (command : Command) → Spells call.players call.words command
      → IsOutcome call.players call.left call.new_left command status text → IsDue call status text
  -- the line for words that spell no command; nothing is read
  usage : status ≡ Usage → SpellsNone call.players call.words → call.new_left ≡ call.left → text ≡ usage_line
      → IsDue call status text
