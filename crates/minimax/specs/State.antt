-- Serves private contracts: what a search keeps while it goes on. Nothing here has to be believed.
use Rattle.std.specs.Prelude.{◌≡◌, ◌↔◌, ℕ, ◌+◌, ◌-◌, ◌<◌, ◌≤◌, ◌⊎◌, Bool, IsTrue, List, [], ◌∷◌, ◌++◌, Option, Some, None}
use Rattle.std.specs.Prelude.{length, map, take, slice_get, false}
use Rattle.std.specs.Prelude.{All, Contains}
use Rattle.items.specs.Game.{GameNumbers}
use Rattle.minimax.specs.declared.space.Space.{Space}
use Rattle.items.specs.Packable.{IsRoom, Packable}
use Rattle.loads.specs.After.{after}
use Rattle.loads.specs.Descending.{IsStrictlyDescending, distinct}
use Rattle.loads.specs.Loads.{IsLoads}
use Rattle.loads.specs.Position.{AreItemsOf, StandsAt}
use Rattle.loads.specs.Wins.{IsWinningSize, IsWon, empty_position}
use Rattle.loads.specs.declared.position.Position.{Position}
use Rattle.good_situations.specs.Finish.{Finishes}
use Rattle.strategy_text.specs.Spelling.{most_nodes}
use Rattle.strategy_text.specs.declared.node.Act.{Act}
use Rattle.strategy_text.specs.declared.node.AdvNode.{AdvNode}
use Rattle.strategy_text.specs.declared.node.AlgNode.{AlgNode}
use Rattle.strategy_text.specs.declared.node.Entry.{Entry}
use Rattle.strategy_text.specs.declared.node.Format.TheVariants.{One}
use Rattle.strategy_text.specs.declared.node.Placement.{Placement}
use Rattle.strategy_text.specs.declared.node.Then.TheVariants.{To}
use Rattle.node_pool.specs.Pools.{Pool, terms_in, with_node}
use Rattle.node_pool.specs.Terms.{terms_of}
use Rattle.adversary_graph.specs.Nodes as adversary
use Rattle.adversary_graph.specs.Pools as adversary_pools
use Rattle.adversary_graph.specs.Rules.{IsOverAtTarget, LeadsTo}
use Rattle.algorithm_graph.specs.Nodes as algorithm
use Rattle.algorithm_graph.specs.Pools as algorithm_pools
use Rattle.algorithm_graph.specs.Judging.{node_at}
use Rattle.algorithm_graph.specs.Rules.{MeetsRules, NamesLoad}
use Rattle.monotone.specs.Passes.{SearchSpace, allowed_in}
use Rattle.monotone.specs.Paths.{IsEarlierMove, IsLegalPath, moved, position_after}
use Rattle.monotone.specs.Visits.{Visit, visit, Metered, CountsVisits, IsLater}
use Rattle.monotone.specs.declared.meter.VisitFault.{VisitFault}
use Rattle.monotone.specs.declared.meter.VisitFault.TheVariants.{Memory, Spent}
use Rattle.monotone.specs.declared.path.PathMove.{PathMove}
use Rattle.transposition.specs.Memo.{verdict_of}
use Rattle.transposition.specs.declared.verdict.Verdict.{Verdict}
use Rattle.transposition.specs.declared.verdict.Verdict.TheVariants.{Adversary, Algorithm, Held}
use Rattle.minimax.specs.Settled.{AreSettledFrom}
use Rattle.minimax.specs.declared.finish_nodes.TheConstants.{FINISHES}
use Rattle.minimax.specs.declared.expanding.Reached.{Reached}
use Rattle.minimax.specs.declared.expanding.Reached.TheVariants.{Answers, ByNext}
use Rattle.minimax.specs.declared.expanding.Search.{Search}
use Rattle.minimax.specs.declared.replies.Reply.{Reply}
use Rattle.minimax.specs.declared.expanding.Tried.{Tried}
use Rattle.minimax.specs.declared.expanding.Tried.TheVariants.{Answered, Wins}
use Rattle.minimax.specs.declared.expanding.Weighed.{Weighed}
use Rattle.minimax.specs.declared.expanding.Weighed.TheVariants.{NoReply, Replied, Unlisted, Won}
use Rattle.minimax.specs.declared.table.Told.{Told}
use Rattle.minimax.specs.declared.table.Told.TheVariants.{Earlier, Settled, Unknown}
use Rattle.minimax.specs.declared.wins.Win.{Win}

-- ---- positions

-- what is searched, as visits have it
abbrev pub space_of : Space → SearchSpace
space_of space = record { game = space.game; sizes = space.sizes; first_pass = space.first_pass }

-- which sizes a pass allows after items
abbrev pub allowed_by : Space → ℕ → List ℕ → ℕ → Bool
allowed_by space pass = allowed_in space.sizes pass

-- the adversary wins a pass from a position
abbrev pub IsWonIn : Space → ℕ → Position → Type 0
IsWonIn space pass position = IsWon space.game (allowed_by space pass) position

-- the adversary wins a pass from a position by an item of this size
abbrev pub WinsBy : Space → ℕ → Position → ℕ → Type 0
WinsBy space pass position size = IsWinningSize space.game (allowed_by space pass) (IsWonIn space pass) position size

-- the adversary wins no pass from a position
abbrev pub IsNeverWon : Space → Position → Type 0
IsNeverWon space position = (pass : ℕ) → IsWonIn space pass position → ⊥

-- loads of the game, and packable items of its sizes that sum to them
pub record IsPlayable (space : Space) (position : Position) : Type 0 where
  pub loads : IsLoads space.game position.loads
  pub items : AreItemsOf space.sizes position.loads position.items
  pub packable : Packable space.game position.items

-- ---- what the table and the pools say

-- the position finishes, which the greatest number of 32 bits tells in place of a node's number
pub record IsFinish (space : Space) (position : Position) (number : ℕ) : Type 0 where
  pub told : number ≡ FINISHES
  pub finishes : Finishes space.game position.loads
  pub never : IsNeverWon space position

-- the position of a kept win
abbrev pub position_of_win : Win → Position
position_of_win win = win.position

-- the position of kept replies
abbrev pub position_of_reply : Reply → Position
position_of_reply reply = reply.position

-- the replies of this number stand at the position, which does not finish
pub record IsNode (space : Space) (replies : List Reply) (position : Position) (number : ℕ) : Type 0 where
  pub stands : StandsAt (map position_of_reply replies) number position
  pub unfinished : Finishes space.game position.loads → ⊥

-- the replies of this number stand at the position, or the position finishes
abbrev pub IsLed : Space → List Reply → Position → ℕ → Type 0
IsLed space replies position number = IsNode space replies position number ⊎ IsFinish space position number

-- that the adversary has no win in a pass, which is not the last one
pub record IsHeld (space : Space) (pass : ℕ) (position : Position) : Type 0 where
  pub before_last : pass + 1 < space.game.capacity
  pub not_won : IsWonIn space pass position → ⊥
  pub unfinished : Finishes space.game position.loads → ⊥

-- what a verdict says of a position: the win or the replies of its number stand there, or it finishes, or the adversary
-- has no win
abbrev pub Says : Space → List Win → List Reply → Position → Verdict → Type 0
Says space wins replies position (Adversary number) = StandsAt (map position_of_win wins) number position
Says space wins replies position (Algorithm number) = IsLed space replies position number
Says space wins replies position (Held pass) = IsHeld space pass position

-- a verdict of this pass: that the adversary has no win is said of a pass
abbrev pub IsOfPass : ℕ → Verdict → Type 0
IsOfPass pass (Adversary number) = Unit {0}
IsOfPass pass (Algorithm number) = Unit {0}
IsOfPass pass (Held held) = held ≡ pass

-- each entry says what holds
abbrev pub AreKnown : Space → List Win → List Reply → List (Position × Verdict) → Type 0
AreKnown space wins replies entries =
    (position : Position) (verdict : Verdict) → verdict_of entries position ≡ Some verdict
    → Says space wins replies position verdict

-- the entry names a load that stays below the target with its size, which may come, and leads to an earlier node or to
-- a position that finishes
pub record IsPending (space : Space) (replies : List Reply) (position : Position) (entry : Entry) : Type 0 where
  pub names : NamesLoad space.game position.loads entry
  pub listed : Contains space.sizes entry.size
  pub may_come : Packable space.game (position.items ++ entry.size ∷ [])
  pub leads : IsLed space replies (after position entry.load entry.size) entry.to

-- the entries are of each size above one number and up to another, from the largest on
pub record AreOfSizes (space : Space) (above high : ℕ) (entries : List Entry) : Type 0 where
  pub descending : IsStrictlyDescending (map (λ (entry : Entry). entry.size) entries)
  pub exact : (size : ℕ) → Contains (map (λ (entry : Entry). entry.size) entries) size
      ↔ (Contains space.sizes size × (above < size) × (size ≤ high))

-- the entries are of each size up to the room, from the largest on
pub record AreOfAll (space : Space) (position : Position) (entries : List Entry) : Type 0 where
  pub room : ℕ
  pub is_room : IsRoom space.game position.items room
  pub sizes : AreOfSizes space 0 room entries

-- the replies at a position of the game: to each size that may come, by earlier replies or positions that finish
pub record IsReady (space : Space) (earlier : List Reply) (reply : Reply) : Type 0 where
  pub playable : IsPlayable space reply.position
  pub of_all : AreOfAll space reply.position reply.entries.items
  pub pending : All (IsPending space earlier reply.position) reply.entries.items

-- what holds of each of a list, over those before it
abbrev pub EachOver : {X : Type 0} → (List X → X → Type 0) → List X → Type 0
EachOver {X} P xs = (k : ℕ) (x : X) → slice_get xs k ≡ Some x → P (take k xs) x

abbrev pub AreReady : Space → List Reply → Type 0
AreReady space replies = EachOver (IsReady space) replies

-- what follows an item of this size at each load, over the positions of earlier nodes
pub record PlacesAll (game : GameNumbers) (earlier : List Position) (position : Position) (size : ℕ)
    (placements : List Placement) : Type 0 where
  pub each_load : map (λ (placement : Placement). placement.load) placements ≡ distinct position.loads
  pub over : All (IsOverAtTarget game size) placements
  pub leads : All (λ placement. LeadsTo earlier placement.next (after position placement.load size)) placements

-- a win at a position of the game, by an item that may come: each load leads to an earlier win or is over
pub record IsReadyWin (space : Space) (earlier : List Win) (win : Win) : Type 0 where
  pub playable : IsPlayable space win.position
  pub listed : Contains space.sizes win.size
  pub may_come : Packable space.game (win.position.items ++ win.size ∷ [])
  pub places : PlacesAll space.game (map position_of_win earlier) win.position win.size win.placements

abbrev pub AreReadyWins : Space → List Win → Type 0
AreReadyWins space wins = EachOver (IsReadyWin space) wins

-- a meter that counted visits of the game, positions that the adversary wins in this pass, replies of the algorithm at
-- positions that are won in none, and entries that hold
pub record AreSound (space : Space) (pass : ℕ) (meter : Metered) (wins : List Win)
    (replies : List Reply) (entries : List (Position × Verdict)) : Type 0 where
  pub counts : CountsVisits (space_of space) meter
  pub within : meter.count ≤ meter.budget
  pub budget : meter.budget ≤ most_nodes
  pub won : All (λ win. IsWonIn space pass (position_of_win win)) wins
  pub lost : All (λ reply. IsNeverWon space (position_of_reply reply)) replies
  pub ready_wins : AreReadyWins space wins
  pub ready : AreReady space replies
  pub known : AreKnown space wins replies entries

-- what a search keeps
abbrev pub IsSound : Space → ℕ → Search → List (Position × Verdict) → Type 0
IsSound space pass search entries = AreSound space pass search.meter search.wins search.replies entries

-- ---- where a search stands

-- the second path differs from the first at some move of both, by a later move
abbrev pub IsPast : List PathMove → List PathMove → Type 0
IsPast [] next = ⊥
IsPast (a ∷ path) [] = ⊥
IsPast (a ∷ path) (b ∷ next) = IsEarlierMove a b ⊎ ((a ≡ b) × IsPast path next)

-- the visit is of a later pass, or of this one and past this path
abbrev pub IsPastVisit : ℕ → List PathMove → Visit → Type 0
IsPastVisit pass path next = (pass < next.pass) ⊎ ((pass ≡ next.pass) × IsPast path next.path)

-- every visit past this path comes after the last that was counted
abbrev pub HasPassed : Metered → ℕ → List PathMove → Type 0
HasPassed meter pass path = (next : Visit) → IsPastVisit pass path next → IsLater meter next

-- no size above the bound may come after the items
abbrev pub IsBound : GameNumbers → List ℕ → ℕ → Type 0
IsBound game items most = (size : ℕ) → Packable game (items ++ size ∷ []) → size ≤ most

-- the path of a search with one more move
abbrev pub with_move : Search → ℕ → ℕ → List PathMove
with_move search size load = search.path ++ moved size load ∷ []

-- the path of a search is legal and settled in this pass, and leads to this position
pub record StandsAtPath (space : Space) (pass : ℕ) (path : List PathMove) (position : Position) : Type 0 where
  pub from_first : space.first_pass ≤ pass
  pub of_game : pass < space.game.capacity
  pub playable : IsPlayable space position
  pub legal : IsLegalPath space.game (allowed_by space pass) path
  pub here : position ≡ position_after (empty_position space.game) path
  pub settled : AreSettledFrom space.game (allowed_by space pass) (empty_position space.game) path

-- at the position of the path no size above this one wins, and all that is past this size is to come
pub record IsOpenFrom (space : Space) (pass size : ℕ) (search : Search) (position : Position) : Type 0 where
  pub stands : StandsAtPath space pass search.path position
  pub bound : IsBound space.game position.items search.most
  pub rooms : search.rooms ≡ space.game
  pub unfinished : Finishes space.game position.loads → ⊥
  pub larger_sizes : (other : ℕ) → size < other → WinsBy space pass position other → ⊥
  pub passed : HasPassed search.meter pass (with_move search size space.game.target)

-- with this size the adversary wins at each larger load below the target, and the visit at this load may come
pub record IsOpenAt (space : Space) (pass size load : ℕ) (search : Search) (position : Position) : Type 0 where
  pub stands : StandsAtPath space pass search.path position
  pub bound : IsBound space.game position.items search.most
  pub rooms : search.rooms ≡ space.game
  pub unfinished : Finishes space.game position.loads → ⊥
  pub larger_sizes : (other : ℕ) → size < other → WinsBy space pass position other → ⊥
  pub larger_loads : (other : ℕ) → Contains position.loads other → load < other → other + size < space.game.target
      → IsWonIn space pass (after position other size)
  pub has_load : Contains position.loads load
  pub later : IsLater search.meter (visit pass (with_move search size load))

-- the size is allowed and may come
pub record MayCome (space : Space) (pass : ℕ) (position : Position) (size : ℕ) : Type 0 where
  pub allowed : IsTrue (allowed_by space pass position.items size)
  pub packable : Packable space.game (position.items ++ size ∷ [])

-- the path may be visited next
pub record MayVisit (space : Space) (pass : ℕ) (search : Search) (position : Position) : Type 0 where
  pub stands : StandsAtPath space pass search.path position
  pub bound : IsBound space.game position.items search.most
  pub rooms : search.rooms ≡ space.game
  pub later : IsLater search.meter (visit pass search.path)

-- the budget has ended where the path was due
pub record IsSpent (space : Space) (pass budget : ℕ) (search : Search) : Type 0 where
  pub counts : CountsVisits (space_of space) search.meter
  pub count : search.meter.count ≡ budget
  pub due : (position : Position) × MayVisit space pass search position

-- the search stopped: where the budget has ended, a path was due
abbrev pub Stops : Space → ℕ → ℕ → Search → VisitFault → Type 0
Stops space pass budget search Spent = IsSpent space pass budget search
Stops space pass budget search Memory = Unit {0}

-- ---- steps of a search

-- the second list goes on from the first
abbrev pub GoesOn : {X : Type 0} → List X → List X → Type 0
GoesOn {X} before after = (more : List X) × (after ≡ before ++ more)

-- the lists went on, and path, rooms and budget are as before
pub record Goes (before after : Search) : Type 0 where
  pub wins : GoesOn before.wins after.wins
  pub replies : GoesOn before.replies after.replies
  pub path : after.path ≡ before.path
  pub most : after.most ≡ before.most
  pub rooms : after.rooms ≡ before.rooms
  pub budget : after.meter.budget ≡ before.meter.budget

-- the search went on to a state that is sound, and to all visits past this path
pub record WentOn (space : Space) (pass : ℕ) (past : List PathMove) (before after : Search)
    (entries : List (Position × Verdict)) : Type 0 where
  pub goes : Goes before after
  pub sound : IsSound space pass after entries
  pub passed : HasPassed after.meter pass past

-- the verdict of this pass says what holds of the position
pub record Tells (space : Space) (pass : ℕ) (search : Search) (position : Position)
    (verdict : Verdict) : Type 0 where
  pub says : Says space search.wins search.replies position verdict
  pub of_pass : IsOfPass pass verdict

-- the search of a position went on to a verdict
pub record FindsVerdict (space : Space) (pass : ℕ) (position : Position) (before after : Search)
    (entries : List (Position × Verdict)) (verdict : Verdict) : Type 0 where
  pub went : WentOn space pass before.path before after entries
  pub tells : Tells space pass after position verdict

-- no win of the adversary
abbrev pub IsNoWin : Verdict → Type 0
IsNoWin (Adversary number) = ⊥
IsNoWin (Algorithm number) = Unit {0}
IsNoWin (Held held) = Unit {0}

-- what follows an item at a load is over exactly where it reaches the target, and else leads to an earlier win; the
-- adversary wins there
pub record FollowsUp (space : Space) (pass : ℕ) (search : Search) (position : Position) (size : ℕ)
    (placement : Placement) : Type 0 where
  pub over : IsOverAtTarget space.game size placement
  pub leads : LeadsTo (map position_of_win search.wins) placement.next (after position placement.load size)
  pub won : (space.game.target ≤ placement.load + size) ⊎ IsWonIn space pass (after position placement.load size)

-- what an item of this size comes to at a load
abbrev pub HasReached : Space → ℕ → Search → Position → ℕ → ℕ → Reached → Type 0
HasReached space pass search position size load (ByNext next) =
    FollowsUp space pass search position size (record { load = load; next = next })
HasReached space pass search position size load (Answers verdict) =
    (load + size < space.game.target) × IsNoWin verdict × Tells space pass search (after position load size) verdict

-- with this size the adversary wins at each larger load below the target
abbrev pub AreWonAbove : Space → ℕ → Position → ℕ → ℕ → Type 0
AreWonAbove space pass position size load =
    (other : ℕ) → Contains position.loads other → load < other → other + size < space.game.target
    → IsWonIn space pass (after position other size)

-- what an item of this size comes to
abbrev pub HasTried : Space → ℕ → Search → Position → ℕ → Tried → Type 0
HasTried space pass search position size (Wins placements) =
    (map (λ (placement : Placement). placement.load) placements ≡ distinct position.loads)
    × All (FollowsUp space pass search position size) placements
HasTried space pass search position size (Answered load verdict) =
    Contains position.loads load × (load + size < space.game.target) × IsNoWin verdict
    × Tells space pass search (after position load size) verdict × AreWonAbove space pass position size load

-- the entry names a load that stays below the target with its size, and leads to an earlier node
pub record IsReply (game : GameNumbers) (replies : List AlgNode) (position : Position) (entry : Entry) : Type 0 where
  pub names : NamesLoad game position.loads entry
  pub leads : StandsAt (map algorithm.position_of replies) entry.to (after position entry.load entry.size)

-- what a size comes to where it does not win
abbrev pub IsAnswered : Space → ℕ → Search → Position → ℕ → Weighed → Type 0
IsAnswered space pass search position size (Won number) = ⊥
IsAnswered space pass search position size (Replied entry) =
    (entry.size ≡ size) × IsPending space search.replies position entry
IsAnswered space pass search position size NoReply = pass + 1 < space.game.capacity
IsAnswered space pass search position size Unlisted = Contains space.sizes size → ⊥

-- a size was found not to win
pub record HasAnswered (space : Space) (pass size : ℕ) (position : Position) (before after : Search)
    (entries : List (Position × Verdict)) (weighed : Weighed) : Type 0 where
  pub went : WentOn space pass (with_move before (size - 1) space.game.target) before after entries
  pub none : WinsBy space pass position size → ⊥
  pub answered : IsAnswered space pass after position size weighed

-- what a size comes to
abbrev pub HasWeighed : Space → ℕ → ℕ → Position → Search → Search → List (Position × Verdict) → Weighed → Type 0
HasWeighed space pass size position before after entries (Won number) =
    FindsVerdict space pass position before after entries (Adversary number)
HasWeighed space pass size position before after entries (Replied entry) =
    HasAnswered space pass size position before after entries (Replied entry)
HasWeighed space pass size position before after entries NoReply =
    HasAnswered space pass size position before after entries NoReply
HasWeighed space pass size position before after entries Unlisted =
    HasAnswered space pass size position before after entries Unlisted

-- what a verdict after an item says of it
abbrev pub reached_by : Verdict → Reached
reached_by (Adversary number) = ByNext (To number)
reached_by (Algorithm number) = Answers (Algorithm number)
reached_by (Held held) = Answers (Held held)

-- the reply that a verdict after an item gives
abbrev pub kept_of : ℕ → ℕ → Verdict → Weighed
kept_of size load (Adversary number) = NoReply
kept_of size load (Algorithm number) = Replied (record { size = size; load = load; to = number })
kept_of size load (Held held) = NoReply

-- ---- nodes

-- a pool of format 1 for the game with its sizes
abbrev pub IsPlain : {Node : Type 0} → Space → Pool Node → Type 0
IsPlain space pool = terms_in pool ≡ terms_of One space.game space.sizes

-- a node of the adversary at this position was put at the end of a pool
pub record PutsWin (before after : adversary_pools.Pool) (position : Position) (number : ℕ) : Type 0 where
  pub node : AdvNode
  pub stands : adversary.position_of node ≡ position
  pub pool : after ≡ with_node before node
  pub is_last : number ≡ length before.nodes

-- a node of the algorithm at this position was put at the end of a pool
pub record PutsReply (before after : algorithm_pools.Pool) (position : Position) (number : ℕ) : Type 0 where
  pub node : AlgNode
  pub stands : algorithm.position_of node ≡ position
  pub pool : after ≡ with_node before node
  pub is_last : number ≡ length before.nodes

-- a win at this position was put at the end of a list
pub record KeepsWin (before after : List Win) (position : Position) (size : ℕ) (placements : List Placement)
    (number : ℕ) : Type 0 where
  pub win : Win
  pub stands : win.position ≡ position
  pub sends : win.size ≡ size
  pub kept : win.placements ≡ placements
  pub list : after ≡ before ++ win ∷ []
  pub is_last : number ≡ length before

-- replies at this position were put at the end of a list
pub record KeepsReply (before after : List Reply) (position : Position) (entries : List Entry)
    (number : ℕ) : Type 0 where
  pub reply : Reply
  pub stands : reply.position ≡ position
  pub kept : reply.entries.items ≡ entries
  pub list : after ≡ before ++ reply ∷ []
  pub is_last : number ≡ length before

-- the rules of an act are met at a position
pub record MayAct (space : Space) (pool : algorithm_pools.Pool) (position : Position) (act : Act) : Type 0 where
  pub playable : IsPlayable space position
  pub room : length pool.nodes < most_nodes
  pub formed : algorithm.IsOfFormat pool.format act
  pub follows : MeetsRules pool.game pool.sizes (map algorithm.position_of pool.nodes) false
      (node_at position act)

-- the entries reply to each size up to the room, from the largest on
pub record ReplyToAll (space : Space) (replies : List AlgNode) (position : Position)
    (entries : List Entry) : Type 0 where
  pub of_all : AreOfAll space position entries
  pub each : All (IsReply space.game replies position) entries

-- ---- the table

-- what the table tells of a position in a pass
abbrev pub IsTold : ℕ → Option Verdict → Told → Type 0
IsTold pass entry (Settled verdict) = (entry ≡ Some verdict) × IsOfPass pass verdict
IsTold pass entry (Earlier held) = (entry ≡ Some (Held held)) × (held ≡ pass → ⊥)
IsTold pass entry Unknown = entry ≡ None

-- the table says nothing of other positions that it did not say before
abbrev pub PutsOnly : List (Position × Verdict) → List (Position × Verdict) → Position → Verdict → Type 0
PutsOnly old new key verdict =
    (position : Position) (told : Verdict) → verdict_of new position ≡ Some told
    → ((position ≡ key) × (told ≡ verdict)) ⊎ (verdict_of old position ≡ Some told)
