-- Serves private contracts: a position that finishes has no node until a strategy is written. That there are no more
-- nodes than visits rests on a list of the positions that finish and were visited.
use Rattle.std.specs.Prelude.{◌≡◌, ℕ, ◌+◌, ◌<◌, ◌≤◌, IsTrue, List, [], ◌∷◌, ◌++◌, Some, length, All, Contains}
use Rattle.items.specs.Game.{GameNumbers}
use Rattle.minimax.specs.declared.space.Space.{Space}
use Rattle.items.specs.Packable.{Packable}
use Rattle.loads.specs.After.{after}
use Rattle.loads.specs.declared.position.Position.{Position}
use Rattle.strategy_text.specs.declared.node.Entry.{Entry}
use Rattle.good_situations.specs.Finish.{Finishes}
use Rattle.transposition.specs.Memo.{verdict_of}
use Rattle.transposition.specs.declared.verdict.Verdict.{Verdict}
use Rattle.transposition.specs.declared.verdict.Verdict.TheVariants.{Algorithm, Held}
use Rattle.minimax.specs.State.{allowed_by}
use Rattle.minimax.specs.declared.table.Told.{Told}
use Rattle.minimax.specs.declared.table.Told.TheVariants.{Earlier}
use Rattle.minimax.specs.declared.finish_nodes.TheConstants.{FINISHES}
use Rattle.minimax.specs.declared.expanding.Reached.{Reached}
use Rattle.minimax.specs.declared.expanding.Reached.TheVariants.{Answers, ByNext}
use Rattle.minimax.specs.declared.expanding.Search.{Search}
use Rattle.minimax.specs.declared.replies.Reply.{Reply}
use Rattle.minimax.specs.declared.expanding.Tried.{Tried}
use Rattle.minimax.specs.declared.expanding.Tried.TheVariants.{Answered, Wins}
use Rattle.minimax.specs.declared.expanding.Weighed.{Weighed}
use Rattle.minimax.specs.declared.expanding.Weighed.TheVariants.{NoReply, Replied, Unlisted, Won}

-- a position that finishes is on the list
abbrev pub IsServed : List Position → Position → Type 0
IsServed unnamed position = Contains unnamed position

-- the position to which an entry leads
abbrev pub led_to : Position → Entry → Position
led_to position entry = after position entry.load entry.size

-- what an entry leads to is served
abbrev pub IsEntryServed : List Position → Position → Entry → Type 0
IsEntryServed unnamed position entry = entry.to ≡ FINISHES → IsServed unnamed (led_to position entry)

-- so many visits are left over for nodes beside those of the list, of the wins and of the replies
abbrev pub IsUnder : ℕ → List Position → Search → Type 0
IsUnder spare unnamed search =
    length unnamed + length search.wins + length search.replies + spare ≤ search.meter.count

-- the greatest load that stays below the target with an item of this size
pub record IsFirst (game : GameNumbers) (position : Position) (size load : ℕ) : Type 0 where
  pub has_load : Contains position.loads load
  pub below : load + size < game.target
  pub larger : (other : ℕ) → Contains position.loads other → load < other → game.target ≤ other + size

-- where the item at that load leads to a position that finishes, that is served
abbrev pub IsFirstServed : Space → List Position → Position → ℕ → Type 0
IsFirstServed space unnamed position size =
    (load : ℕ) → IsFirst space.game position size load → Finishes space.game (after position load size).loads
    → IsServed unnamed (after position load size)

-- so it is for each size of a pass that may come
abbrev pub IsTriedOut : Space → ℕ → List Position → Position → Type 0
IsTriedOut space pass unnamed position =
    (size : ℕ) → IsTrue (allowed_by space pass position.items size) → Packable space.game (position.items ++ size ∷ [])
    → IsFirstServed space unnamed position size

-- a position whose verdict tells that it finishes is served, and one without a win in a pass is tried out in it
abbrev pub IsServedBy : Space → List Position → Position → Verdict → Type 0
IsServedBy space unnamed position verdict =
    (verdict ≡ Algorithm FINISHES → IsServed unnamed position)
    × ((pass : ℕ) → verdict ≡ Held pass → IsTriedOut space pass unnamed position)

-- and so is each position with an entry, by its verdict, and what the replies lead to
pub record AreServed (space : Space) (unnamed : List Position) (replies : List Reply)
    (entries : List (Position × Verdict)) : Type 0 where
  pub known : (position : Position) (verdict : Verdict) → verdict_of entries position ≡ Some verdict
      → IsServedBy space unnamed position verdict
  pub replied : (reply : Reply) → Contains replies reply
      → All (IsEntryServed unnamed reply.position) reply.entries.items

abbrev pub IsBehind : Space → ℕ → List Position → Search → List (Position × Verdict) → Type 0
IsBehind space spare unnamed search entries =
    IsUnder spare unnamed search × AreServed space unnamed search.replies entries

-- there is such a list
abbrev pub HasSpare : Space → ℕ → Search → List (Position × Verdict) → Type 0
HasSpare space spare search entries = (unnamed : List Position) × IsBehind space spare unnamed search entries

-- from a list a search came to another; what was served still is, and more
pub record Serving (space : Space) (spare : ℕ) (unnamed : List Position) (before after : Search)
    (entries : List (Position × Verdict)) (More : List Position → Type 0) : Type 0 where
  pub later : List Position
  pub behind : IsBehind space spare later after entries
  pub keeps : (position : Position) → IsServed unnamed position → IsServed later position
  pub more : More later

-- whatever the list was, a search came to another, and took so many of the visits that were left over
abbrev pub KeepsServing : Space → ℕ → Search → List (Position × Verdict) → Search → List (Position × Verdict)
    → (List Position → Type 0) → Type 0
KeepsServing space took before old after new More =
    (spare : ℕ) (unnamed : List Position) → IsBehind space (took + spare) unnamed before old
    → Serving space spare unnamed before after new More

-- a position of which the table told an earlier pass is tried out in that pass
abbrev pub IsTriedBefore : Space → Told → List Position → Position → Type 0
IsTriedBefore space told unnamed position =
    (pass : ℕ) → told ≡ Earlier pass → IsTriedOut space pass unnamed position

-- whatever the list was, with which the position was tried out as the table told, a search came to another
abbrev pub KeepsServingTold : Space → Told → Position → ℕ → Search → List (Position × Verdict) → Search
    → List (Position × Verdict) → (List Position → Type 0) → Type 0
KeepsServingTold space told position took before old after new More =
    (spare : ℕ) (unnamed : List Position) → IsBehind space (took + spare) unnamed before old
    → IsTriedBefore space told unnamed position → Serving space spare unnamed before after new More

-- so is what an item at a load came to
abbrev pub IsServedAt : Space → List Position → Position → ℕ → ℕ → Reached → Type 0
IsServedAt space unnamed position size load (ByNext next) = Unit {0}
IsServedAt space unnamed position size load (Answers verdict) =
    IsServedBy space unnamed (after position load size) verdict

-- what an item came to
abbrev pub IsServedWith : Space → List Position → Position → ℕ → Tried → Type 0
IsServedWith space unnamed position size (Wins placements) = Unit {0}
IsServedWith space unnamed position size (Answered load verdict) =
    IsServedBy space unnamed (after position load size) verdict

-- a size that the pass allows was tried
abbrev pub IsSizeTried : Space → ℕ → List Position → Position → ℕ → Type 0
IsSizeTried space pass unnamed position size =
    IsTrue (allowed_by space pass position.items size) → IsFirstServed space unnamed position size

-- so was each size above one, up to the room
abbrev pub AreTried : Space → ℕ → ℕ → ℕ → List Position → Position → Type 0
AreTried space pass above room unnamed position =
    (size : ℕ) → above < size → size ≤ room → IsSizeTried space pass unnamed position size

-- and what was found of a size
abbrev pub IsServedFor : Space → ℕ → List Position → Position → ℕ → Weighed → Type 0
IsServedFor space pass unnamed position size (Won number) = Unit {0}
IsServedFor space pass unnamed position size (Replied entry) =
    IsEntryServed unnamed position entry × IsSizeTried space pass unnamed position size
IsServedFor space pass unnamed position size NoReply = IsSizeTried space pass unnamed position size
IsServedFor space pass unnamed position size Unlisted = IsSizeTried space pass unnamed position size

-- a size that wins takes one visit that was left over
abbrev pub taken_by : Weighed → ℕ
taken_by (Won number) = 1
taken_by (Replied entry) = 0
taken_by NoReply = 0
taken_by Unlisted = 0

-- an item of this size, which an earlier pass tried, leads to a position that finishes at the greatest load that stays
-- below the target
pub record IsSkipped (space : Space) (told : Told) (position : Position) (size load : ℕ) : Type 0 where
  pub pass : ℕ
  pub earlier : told ≡ Earlier pass
  pub of_game : pass ≤ space.game.capacity
  pub allowed : IsTrue (allowed_by space pass position.items size)
  pub first : IsFirst space.game position size load
  pub finishes : Finishes space.game (after position load size).loads
