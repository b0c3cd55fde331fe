-- Serves private contracts: how many positions a search has still to visit in a pass.
use Rattle.std.specs.Prelude.{◌≡◌, ℕ, ◌+◌, ◌-◌, ◌<◌, ◌≤◌, ◌==◌, ◌&&◌, not, Bool, true, false, List, Option, Some}
use Rattle.std.specs.Prelude.{None, IsSome, count_by, sum}
use Rattle.std.specs.Prelude.{MatchResult, Result}
use Rattle.minimax.specs.declared.space.Space.{Space}
use Rattle.loads.specs.Position.{are_equal}
use Rattle.loads.specs.Wins.{empty_position}
use Rattle.loads.specs.declared.position.Position.{Position}
use Rattle.monotone.specs.Positions.{AreReachable, CountsReachable, IsReachable}
use Rattle.monotone.specs.Visits.{Metered}
use Rattle.monotone.specs.declared.meter.VisitFault.{VisitFault}
use Rattle.monotone.specs.declared.meter.VisitFault.TheVariants.{Memory, Spent}
use Rattle.transposition.specs.Memo.{verdict_of}
use Rattle.transposition.specs.declared.verdict.Verdict.{Verdict}
use Rattle.transposition.specs.declared.verdict.Verdict.TheVariants.{Adversary, Algorithm, Held}
use Rattle.minimax.specs.Budgets.{reachable_before}
use Rattle.minimax.specs.State.{IsNeverWon, allowed_by}
use Rattle.minimax.specs.declared.answer.Answer.{Answer}
use Rattle.minimax.specs.declared.answer.Answer.TheVariants as Answers

-- whether a position with this entry is to be visited in a pass: it has none, or one that says nothing of the pass
abbrev pub is_fresh : ℕ → Option Verdict → Bool
is_fresh pass None = true
is_fresh pass (Some (Adversary number)) = false
is_fresh pass (Some (Algorithm number)) = false
is_fresh pass (Some (Held held)) = not (held == pass)

-- how many of the positions that are looked at are to be visited
abbrev pub number_fresh : ℕ → (Position → Bool) → List (Position × Verdict) → List Position → ℕ
number_fresh pass looked entries positions =
    count_by (λ position. looked position && is_fresh pass (verdict_of entries position)) positions

-- the positions that are looked at but this one
abbrev pub but : (Position → Bool) → Position → Position → Bool
but looked position other = looked other && not (are_equal position other)

-- a table of this capacity has room for all positions that are reachable in the last pass
abbrev pub HasRoomIn : Space → ℕ → Type 0
HasRoomIn space room =
    (all : ℕ) × CountsReachable space.game (allowed_by space (space.game.capacity - 1)) all × (all ≤ room)

-- the numbers of positions that are reachable in each of the passes
abbrev pub AreNumbersIn : Space → (ℕ → ℕ) → Type 0
AreNumbersIn space numbers =
    (pass : ℕ) → space.first_pass ≤ pass → pass < space.game.capacity
    → CountsReachable space.game (allowed_by space pass) (numbers pass)

-- each entry is of a position that is reachable in the last pass
abbrev pub AreOfReachable : Space → List (Position × Verdict) → Type 0
AreOfReachable space entries =
    (position : Position) → IsSome (verdict_of entries position)
    → IsReachable space.game (allowed_by space (space.game.capacity - 1)) position

-- how far a search is: its meter, and the entries and the capacity of its table
pub record Progress : Type 0 where
  pub meter : Metered
  pub entries : List (Position × Verdict)
  pub room : ℕ

abbrev pub progress : Metered → List (Position × Verdict) → ℕ → Progress
progress meter entries room = record { meter = meter; entries = entries; room = room }

-- how many visits were counted or are still to come at the positions that are looked at
abbrev pub counted_and_fresh : ℕ → (Position → Bool) → List Position → Progress → ℕ
counted_and_fresh pass looked positions at = at.meter.count + number_fresh pass looked at.entries positions

-- the table has room for all reachable positions and entries of these alone, the positions are those that are
-- reachable in this pass, and those of at least this volume are looked at
pub record Looks (space : Space) (pass volume : ℕ) (looked : Position → Bool) (positions : List Position)
    (at : Progress) : Type 0 where
  pub has_room : HasRoomIn space at.room
  pub of_reachable : AreOfReachable space at.entries
  pub reachable : AreReachable space.game (allowed_by space pass) positions
  pub looks : (position : Position) → volume ≤ sum position.items → looked position ≡ true

-- capacity and budget stayed, entries are of reachable positions still, and each visit that was counted took a fresh
-- position away
pub record CountsFresh (space : Space) (pass volume : ℕ) (before after : Progress) : Type 0 where
  pub room : after.room ≡ before.room
  pub budget : after.meter.budget ≡ before.meter.budget
  pub of_reachable : HasRoomIn space before.room → AreOfReachable space before.entries → AreOfReachable space after.entries
  pub fresh : (looked : Position → Bool) (positions : List Position) → Looks space pass volume looked positions before
      → counted_and_fresh pass looked positions after ≤ counted_and_fresh pass looked positions before

-- where the budget has ended, it was less than the visits that were counted or still to come
abbrev pub IsShort : Space → ℕ → ℕ → Progress → VisitFault → Type 0
IsShort space pass volume before Spent =
    (looked : Position → Bool) (positions : List Position) → Looks space pass volume looked positions before
    → before.meter.budget < counted_and_fresh pass looked positions before
IsShort space pass volume before Memory = Unit {0}

-- a call that found something took a fresh position away for each visit; where the budget has ended, it was too short
abbrev pub KeepsCount : {X : Type 0} → Space → ℕ → ℕ → Progress → Progress → Result X VisitFault → Type 0
KeepsCount space pass volume before after result =
    MatchResult result (λ found. CountsFresh space pass volume before after) (IsShort space pass volume before)

-- before a pass at most so many visits were counted as the earlier passes have reachable positions
pub record IsWithinReachable (space : Space) (room budget pass : ℕ) (at : Progress) : Type 0 where
  pub same_room : at.room ≡ room
  pub same_budget : at.meter.budget ≡ budget
  pub of_reachable : HasRoomIn space room → AreOfReachable space at.entries
  pub counted : HasRoomIn space room → (numbers : ℕ → ℕ) → AreNumbersIn space numbers
      → at.meter.count ≤ reachable_before numbers pass

-- the budget is less than the number of reachable positions of the passes up to and with this one
abbrev pub IsLessThanReachable : Space → ℕ → ℕ → ℕ → Type 0
IsLessThanReachable space room budget pass =
    HasRoomIn space room → (numbers : ℕ → ℕ) → AreNumbersIn space numbers
    → budget < reachable_before numbers (pass + 1)

-- what is left of an answer's budget and sides where the table has room for all reachable positions
abbrev pub IsWithin : Space → ℕ → ℕ → Answer → Type 0
IsWithin space room budget (Answers.Adversary strategy) = Unit {0}
IsWithin space room budget (Answers.Algorithm strategy) = IsNeverWon space (empty_position space.game)
IsWithin space room budget (Answers.Undecided visits pass path) = IsLessThanReachable space room budget pass
