-- What a run comes to, by what was made and how the writing of it ended.
use Rattle.std.proofs.Common.{◌≡◌, ◌⊎◌, ℕ, List, [], Option, Result, Ok, Err, IfOk, IfErr, inl, inr, sym, subst, ◌∙◌}
use Rattle.checker.specs.Accepted.{IsFaultOf, IsTextFaultOf, IsTextInterrupted}
use Rattle.checker.specs.declared.fault.CheckFault.{CheckFault}
use Rattle.checker.specs.declared.fault.CheckFault.TheVariants as check_fault
use Rattle.checker.specs.declared.fault.Wanted.TheVariants.{Only}
use Rattle.port_io.specs.Faults.{Rose}
use Rattle.strategy_text.specs.declared.node.Side.TheVariants.{Adversary}
use Rattle.stretch_bench.specs.Call.{Call, Players}
use Rattle.stretch_bench.specs.Commands.{Spells, SpellsNone, reads_by}
use Rattle.stretch_bench.specs.Due.{IsDue, IsOutcome, bad_answer, commanded, done, input_ended, not_found, rejected, rejected_front, undecided}
use Rattle.stretch_bench.specs.Due.{unpackable, unscaled, unvalued, unweakened, usage}
use Rattle.stretch_bench.specs.Form.{Reads, reads_front, reads_nothing, reads_whole}
use Rattle.stretch_bench.specs.Lines.{usage_line}
use Rattle.stretch_bench.specs.Pieces.{IsDueWith, IsEnding, IsMade, IsStopOf, all, due_text, some, unmade, unread}
use Rattle.stretch_bench.specs.Run.{IsAnswer, IsCut, IsCutShort, IsStopped, Run, memory_refused, read_failed, write_failed, wrote}
use Rattle.stretch_bench.specs.Session.{IsUnanswered}
use Rattle.stretch_bench.specs.declared.command.Command.{Command}
use Rattle.stretch_bench.specs.declared.command.Command.TheVariants.{Session}
use Rattle.stretch_bench.specs.declared.due.Due.{Due}
use Rattle.stretch_bench.specs.declared.due.Stop.{Stop}
use Rattle.stretch_bench.specs.declared.due.Stop.TheVariants.{Read}
use Rattle.stretch_bench.specs.declared.status.Status.{Status}
use Rattle.stretch_bench.specs.declared.status.Status.TheVariants.{Done, Rejected, Usage, Undecided, ReadFault, OutOfMemory, Unpackable, Ended, BadAnswer}
use Rattle.stretch_bench.specs.declared.status.Status.TheVariants.{NoTransfer, NotFound}
use Rattle.stretch_bench.proofs.CommandLemmas.{spells_as}

abbrev pub call_of : Players → List (List ℕ) → Option (List ℕ) → Option (List ℕ) → Call
call_of players words left new_left = record { players = players; words = words; left = left; new_left = new_left }

abbrev pub run_of : Call → ℕ → ℕ → Option (List ℕ) → Option (List ℕ) → ℕ → ℕ → Run
run_of call reads new_reads old new writes new_writes = record {
  call = call;
  reads_failed = reads;
  new_reads_failed = new_reads;
  written = old;
  new_written = new;
  writes_failed = writes;
  new_writes_failed = new_writes;
}

-- no text is due with the statuses of a run that was stopped
stop_differs : (status known : Status) → status ≡ known → IsStopped status → (IsStopped known → ⊥) → ⊥
stop_differs status known e stopped never = never (subst IsStopped e stopped)

done_goes : IsStopped Done → ⊥
done_goes (inl e) = absurd cc
done_goes (inr (inl e)) = absurd cc
done_goes (inr (inr e)) = absurd cc

rejected_goes : IsStopped Rejected → ⊥
rejected_goes (inl e) = absurd cc
rejected_goes (inr (inl e)) = absurd cc
rejected_goes (inr (inr e)) = absurd cc

usage_goes : IsStopped Usage → ⊥
usage_goes (inl e) = absurd cc
usage_goes (inr (inl e)) = absurd cc
usage_goes (inr (inr e)) = absurd cc

undecided_goes : IsStopped Undecided → ⊥
undecided_goes (inl e) = absurd cc
undecided_goes (inr (inl e)) = absurd cc
undecided_goes (inr (inr e)) = absurd cc

unpackable_goes : IsStopped Unpackable → ⊥
unpackable_goes (inl e) = absurd cc
unpackable_goes (inr (inl e)) = absurd cc
unpackable_goes (inr (inr e)) = absurd cc

ended_goes : IsStopped Ended → ⊥
ended_goes (inl e) = absurd cc
ended_goes (inr (inl e)) = absurd cc
ended_goes (inr (inr e)) = absurd cc

bad_answer_goes : IsStopped BadAnswer → ⊥
bad_answer_goes (inl e) = absurd cc
bad_answer_goes (inr (inl e)) = absurd cc
bad_answer_goes (inr (inr e)) = absurd cc

no_transfer_goes : IsStopped NoTransfer → ⊥
no_transfer_goes (inl e) = absurd cc
no_transfer_goes (inr (inl e)) = absurd cc
no_transfer_goes (inr (inr e)) = absurd cc

not_found_goes : IsStopped NotFound → ⊥
not_found_goes (inl e) = absurd cc
not_found_goes (inr (inl e)) = absurd cc
not_found_goes (inr (inr e)) = absurd cc

outcome_goes : (players : Players) (left new_left : Option (List ℕ)) (command : Command) (status : Status) (text : List ℕ)
    → IsOutcome players left new_left command status text → IsStopped status → ⊥
outcome_goes players left new_left command status text (done e is) stopped = stop_differs status Done e stopped done_goes
outcome_goes players left new_left command status text (rejected wanted e w is) stopped = stop_differs status Rejected e stopped rejected_goes
outcome_goes players left new_left command status text (rejected_front wanted e w is) stopped = stop_differs status Rejected e stopped rejected_goes
outcome_goes players left new_left command status text (unpackable items e c is) stopped = stop_differs status Unpackable e stopped unpackable_goes
outcome_goes players left new_left command status text (undecided game budget table e c l is) stopped = stop_differs status Undecided e stopped undecided_goes
outcome_goes players left new_left command status text (input_ended e c is) stopped = stop_differs status Ended e stopped ended_goes
outcome_goes players left new_left command status text (bad_answer e c is) stopped = stop_differs status BadAnswer e stopped bad_answer_goes
outcome_goes players left new_left command status text (unscaled factor e c is) stopped = stop_differs status NoTransfer e stopped no_transfer_goes
outcome_goes players left new_left command status text (unweakened target e c is) stopped = stop_differs status NoTransfer e stopped no_transfer_goes
outcome_goes players left new_left command status text (unvalued bins capacity budget table e c l is) stopped =
    stop_differs status Undecided e stopped undecided_goes
outcome_goes players left new_left command status text (not_found game pass budget table e c l is) stopped =
    stop_differs status NotFound e stopped not_found_goes

pub due_goes : (call : Call) (status : Status) (text : List ℕ) → IsDue call status text → IsStopped status → ⊥
due_goes call status text (commanded command spells is) stopped = outcome_goes call.players call.left call.new_left command status text is stopped
due_goes call status text (usage e none l is) stopped = stop_differs status Usage e stopped usage_goes

stopped_so : (status : Status) → (status ≡ ReadFault) ⊎ (status ≡ OutOfMemory) → IsStopped status
stopped_so status (inl e) = inl e
stopped_so status (inr e) = inr (inr e)

-- what was made is due
abbrev pub IsDueIn : Call → Due → Type 0
IsDueIn call due = IsDue call due.status (due_text due)

module _ (call : Call) (reads new_reads : ℕ) (old new : Option (List ℕ)) (writes new_writes : ℕ) where
  -- a run by what was made and how its writing ended
  pub answer_by : (made : Result Due Stop) (status : Status) → IfOk made (IsDueIn call) → (made ≡ Err Read → Rose reads new_reads)
      → (made ≡ Err Read → IsCutShort call) → IsEnding made old new writes new_writes status
      → IsAnswer (run_of call reads new_reads old new writes new_writes) status
  answer_by made status due rose cut (all what e s whole) =
      wrote (due_text what) (subst (λ (t : Status). IsDue call t (due_text what)) (sym s) (subst (λ (r : Result Due Stop). IfOk r (IsDueIn call)) e due)) whole
  answer_by made status due rose cut (some what e s failed part) =
      write_failed what.status (due_text what) s failed (subst (λ (r : Result Due Stop). IfOk r (IsDueIn call)) e due) part
  answer_by made status due rose cut (unread e s same) = read_failed s (rose e) (cut e) same
  answer_by made status due rose cut (unmade e s same) = memory_refused s same

  -- nothing was written where the run was stopped before
  pub same_where : (Same : Type 0) (made : Result Due Stop) (status : Status) → IfOk made (IsDueIn call) → IfErr made (λ stop. Same)
      → IsEnding made old new writes new_writes status → (status ≡ ReadFault) ⊎ (status ≡ OutOfMemory) → Same
  same_where Same made status due same (all what e s whole) stopped =
      absurd (due_goes call what.status (due_text what) (subst (λ (r : Result Due Stop). IfOk r (IsDueIn call)) e due) (subst IsStopped s (stopped_so status stopped)))
  same_where Same made status due same (some what e s failed part) (inl r) = absurd cc
  same_where Same made status due same (some what e s failed part) (inr r) = absurd cc
  same_where Same made status due same (unread e s old_is) stopped = subst (λ (r : Result Due Stop). IfErr r (λ (stop : Stop). Same)) e same
  same_where Same made status due same (unmade e s old_is) stopped = subst (λ (r : Result Due Stop). IfErr r (λ (stop : Stop). Same)) e same

-- Where a run was stopped by a failed read, nothing was made for want of it: what is so of the sink where nothing was
-- made, and of the source where a read failed, is so then.
pub unread_where : (Same Cut : Type 0) (made : Result Due Stop) (old new : Option (List ℕ)) (writes new_writes : ℕ) (status : Status)
    → IfOk made (λ due. due.status ≡ ReadFault → ⊥) → IfErr made (λ stop. Same) → (made ≡ Err Read → Cut) → IsEnding made old new writes new_writes status
    → status ≡ ReadFault → Same × Cut
unread_where Same Cut made old new writes new_writes status never same cut (all what e s whole) f =
    absurd (subst (λ (r : Result Due Stop). IfOk r (λ due. due.status ≡ ReadFault → ⊥)) e never (sym s ∙ f))
unread_where Same Cut made old new writes new_writes status never same cut (some what e s failed part) f = absurd cc
unread_where Same Cut made old new writes new_writes status never same cut (unread e s old_is) f =
    (subst (λ (r : Result Due Stop). IfErr r (λ (stop : Stop). Same)) e same, cut e)
unread_where Same Cut made old new writes new_writes status never same cut (unmade e s old_is) f = absurd cc

-- a text that is due has another status
pub made_is_read : (players : Players) (left new_left : Option (List ℕ)) (command : Command) (made : Result Due Stop)
    → IfOk made (IsMade players left new_left command) → IfOk made (λ due. due.status ≡ ReadFault → ⊥)
made_is_read players left new_left command (Ok due) is = λ f. outcome_goes players left new_left command due.status (due_text due) is.outcome (inl f)
made_is_read players left new_left command (Err stop) is = tt

pub known_is_read : (known : Status) (made : Result Due Stop) → (known ≡ ReadFault → ⊥) → IfOk made (λ due. due.status ≡ known)
    → IfOk made (λ due. due.status ≡ ReadFault → ⊥)
known_is_read known (Ok due) never e = λ f. never (sym e ∙ f)
known_is_read known (Err stop) never e = tt

pub usage_is_read : (made : Result Due Stop) → IfOk made (IsDueWith Usage (λ text. text ≡ usage_line)) → IfOk made (λ due. due.status ≡ ReadFault → ⊥)
usage_is_read (Ok due) is = λ f. usage_goes (inl (sym is.status_is ∙ f))
usage_is_read (Err stop) is = tt

-- the same of a session
pub talk_unread : (Same : Type 0) (players : Players) (command : Command) (left new_left old new : Option (List ℕ)) → command ≡ Session
    → (Same × IsTextInterrupted (Only Adversary) [] left new_left) ⊎ IsUnanswered left new_left old new
    → (Same × IsCut (reads_by players command) left new_left) ⊎ ((command ≡ Session) × IsUnanswered left new_left old new)
talk_unread Same players command left new_left old new e (inl h) =
    inl (h.0, subst (λ (c : Command). IsCut (reads_by players c) left new_left) (sym e) h.1)
talk_unread Same players command left new_left old new e (inr h) = inr (e, h)

-- what is so of a command is so of the words that spell it
pub spelled_unread : (Same : Type 0) (players : Players) (words : List (List ℕ)) (command : Command) (left new_left old new : Option (List ℕ))
    → Spells players words command → (Same × IsCut (reads_by players command) left new_left) ⊎ ((command ≡ Session) × IsUnanswered left new_left old new)
    → (Same × IsCutShort (call_of players words left new_left)) ⊎ (Spells players words Session × IsUnanswered left new_left old new)
spelled_unread Same players words command left new_left old new spells (inl h) = inl (h.0, record { command = command; spells = spells; cut = h.1 })
spelled_unread Same players words command left new_left old new spells (inr h) = inr (spells_as players words command Session h.0 spells, h.1)

-- what a command comes to is due where the words spell it
pub made_is_due : (players : Players) (words : List (List ℕ)) (left new_left : Option (List ℕ)) (command : Command) (made : Result Due Stop)
    → Spells players words command → IfOk made (IsMade players left new_left command) → IfOk made (IsDueIn (call_of players words left new_left))
made_is_due players words left new_left command (Ok due) spells is = commanded command spells is.outcome
made_is_due players words left new_left command (Err stop) spells is = tt

pub usage_is_due : (players : Players) (words : List (List ℕ)) (left new_left : Option (List ℕ)) (made : Result Due Stop)
    → SpellsNone players words → new_left ≡ left → IfOk made (IsDueWith Usage (λ text. text ≡ usage_line)) → IfOk made (IsDueIn (call_of players words left new_left))
usage_is_due players words left new_left (Ok due) none same is = usage is.status_is none same is.text
usage_is_due players words left new_left (Err stop) none same is = tt

-- a read that failed for a command
pub cut_for : (players : Players) (left new_left : Option (List ℕ)) (reads : Reads) (fault : CheckFault)
    → IsStopOf reads left new_left fault → fault ≡ check_fault.Read → IsCut reads left new_left
cut_for players left new_left reads_nothing fault stop e = absurd cc
cut_for players left new_left (reads_whole wanted) fault (inl memory) e = absurd cc
cut_for players left new_left (reads_whole wanted) fault (inr of) e = subst (λ (f : CheckFault). IsFaultOf wanted [] f left new_left) e of
cut_for players left new_left (reads_front wanted) fault (inl memory) e = absurd cc
cut_for players left new_left (reads_front wanted) fault (inr of) e = subst (λ (f : CheckFault). IsTextFaultOf wanted [] f left new_left) e of
