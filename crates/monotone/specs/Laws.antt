use Rattle.std.specs.Prelude.{◌≡◌, ◌≢◌, ◌⊎◌, sum, ◌↔◌, ℕ, ◌+◌, ◌-◌, ◌*◌, ◌<◌, ◌≤◌, Bool, IsTrue, List, [], ◌∷◌, ◌++◌}
use Rattle.std.specs.Prelude.{length, Contains, All, AllPairs, Some}
use Rattle.items.specs.Game.{GameNumbers}
use Rattle.items.specs.Multiset.{largest_of, IsSize}
use Rattle.loads.specs.After.{after}
use Rattle.loads.specs.declared.position.Position.{Position}
use Rattle.monotone.specs.declared.path.PathMove.{PathMove}
use Rattle.loads.specs.Wins.{empty_position}
use Rattle.monotone.specs.Paths.{IsLegalFrom, IsLegalPath, IsLegalMove, ComesBefore, position_after}
use Rattle.monotone.specs.Passes.{SearchSpace, allowed_in}
use Rattle.monotone.specs.Visits.{Visit, IsVisit, IsEarlierVisit, Metered, CountsVisits, HasVisitsBefore, IsLater}
use Rattle.monotone.specs.Visits.{unused, counted, most_visits}
use Rattle.monotone.specs.Positions.{IsReachable, CountsReachable, CountsReachableOfPass, CountsAllReachable}

-- a pass allows exactly those of the sizes that, with its number, are at least the largest item
abbrev pub PassesAllowSizes : Type 0
PassesAllowSizes =
    (sizes items : List ℕ) (pass size : ℕ)
    → IsTrue (allowed_in sizes pass items size) ↔ (Contains sizes size × (largest_of items ≤ size + pass))

-- what a pass allows, a later one allows
abbrev pub LaterPassesAllowMore : Type 0
LaterPassesAllowMore =
    (sizes items : List ℕ) (pass later size : ℕ) → pass ≤ later
    → IsTrue (allowed_in sizes pass items size) → IsTrue (allowed_in sizes later items size)

-- the last pass allows each of the sizes, at items of the game
abbrev pub LastPassAllowsAll : Type 0
LastPassAllowsAll =
    (game : GameNumbers) (sizes items : List ℕ) (size : ℕ) → All (IsSize game.capacity) items → 1 ≤ size
    → IsTrue (allowed_in sizes (game.capacity - 1) items size) ↔ Contains sizes size

-- no path comes before itself
abbrev pub NoPathBeforeItself : Type 0
NoPathBeforeItself = (path : List PathMove) → ComesBefore path path → ⊥

-- a path before one that comes before a third comes before the third
abbrev pub EarlierPathsCompose : Type 0
EarlierPathsCompose =
    (first second third : List PathMove) → ComesBefore first second → ComesBefore second third → ComesBefore first third

-- of two paths the one comes before the other, or they are the same
abbrev pub AnyTwoPathsCompare : Type 0
AnyTwoPathsCompare =
    (first second : List PathMove) → ComesBefore first second ⊎ ((first ≡ second) ⊎ ComesBefore second first)

-- a path and one more move is legal exactly where the path is and the move is legal at its end
abbrev pub LegalPathsGrowByLegalMoves : Type 0
LegalPathsGrowByLegalMoves =
    (game : GameNumbers) (allowed : List ℕ → ℕ → Bool) (start : Position) (path : List PathMove) (step : PathMove)
    → IsLegalFrom game allowed start (path ++ step ∷ [])
    ↔ (IsLegalFrom game allowed start path × IsLegalMove game allowed (position_after start path) step)

-- the position after a path and one more move is the one after that move
abbrev pub OneMoreMove : Type 0
OneMoreMove =
    (start : Position) (path : List PathMove) (step : PathMove)
    → position_after start (path ++ step ∷ []) ≡ after (position_after start path) step.load step.item

-- a legal path has no more moves than the volume of its items, and that is at most the volume of the bins
abbrev pub LegalPathsAreShort : Type 0
LegalPathsAreShort =
    (game : GameNumbers) (allowed : List ℕ → ℕ → Bool) (path : List PathMove) → IsLegalPath game allowed path
    → let items = (position_after (empty_position game) path).items in
    (length path ≤ sum items) × (sum items ≤ game.bins * game.capacity)

-- visits of which none is there twice are at most so many
abbrev pub VisitsAreBounded : Type 0
VisitsAreBounded =
    (space : SearchSpace) (visits : List Visit) → All (IsVisit space) visits → AllPairs ◌≢◌ visits
    → length visits ≤ most_visits space

-- no visit comes before itself
abbrev pub NoVisitBeforeItself : Type 0
NoVisitBeforeItself = (visited : Visit) → IsEarlierVisit visited visited → ⊥

-- a visit before one that comes before a third comes before the third
abbrev pub EarlierVisitsCompose : Type 0
EarlierVisitsCompose =
    (first second third : Visit)
    → IsEarlierVisit first second → IsEarlierVisit second third → IsEarlierVisit first third

-- a meter that has counted nothing has counted visits of any space alone
abbrev pub UnusedMeterCounts : Type 0
UnusedMeterCounts = (space : SearchSpace) (budget : ℕ) → CountsVisits space (unused space.game budget)

-- a meter that counts a later visit of the space goes on counting visits of it alone
abbrev pub MeterGoesOnCounting : Type 0
MeterGoesOnCounting =
    (space : SearchSpace) (meter : Metered) (next : Visit)
    → CountsVisits space meter → IsVisit space next → IsLater meter next → CountsVisits space (counted meter next)

-- a meter counts at most as many visits as there are up to and with the last
abbrev pub CountIsAtMostTheRank : Type 0
CountIsAtMostTheRank =
    (space : SearchSpace) (meter : Metered) (last : Visit) (ranked : List Visit)
    → CountsVisits space meter → meter.last ≡ Some last
    → ((visited : Visit) → IsVisit space visited → IsEarlierVisit visited last ⊎ (visited ≡ last)
    → Contains ranked visited)
    → meter.count ≤ length ranked

-- at least as many visits as were counted come before a later one
abbrev pub CountedVisitsComeBefore : Type 0
CountedVisitsComeBefore =
    (space : SearchSpace) (meter : Metered) (next : Visit)
    → CountsVisits space meter → IsLater meter next → HasVisitsBefore space meter.count next

-- before a visit come fewer than there are at most
abbrev pub FewerComeBefore : Type 0
FewerComeBefore =
    (space : SearchSpace) (number : ℕ) (next : Visit)
    → HasVisitsBefore space number next → IsVisit space next → number < most_visits space

-- there is a number of reachable positions of a game
abbrev pub ReachableAreCounted : Type 0
ReachableAreCounted =
    (game : GameNumbers) (allowed : List ℕ → ℕ → Bool) → (number : ℕ) × CountsReachable game allowed number

-- and only one
abbrev pub OneNumberOfReachable : Type 0
OneNumberOfReachable =
    (game : GameNumbers) (allowed : List ℕ → ℕ → Bool) (one other : ℕ)
    → CountsReachable game allowed one → CountsReachable game allowed other → one ≡ other

-- different reachable positions are no more than their number
abbrev pub ReachableAreNoMore : Type 0
ReachableAreNoMore =
    (game : GameNumbers) (allowed : List ℕ → ℕ → Bool) (number : ℕ) (positions : List Position)
    → CountsReachable game allowed number → All (IsReachable game allowed) positions → AllPairs ◌≢◌ positions
    → length positions ≤ number

-- in no pass are more positions reachable than in the last one
abbrev pub LastPassHasMostReachable : Type 0
LastPassHasMostReachable =
    (game : GameNumbers) (pass number all : ℕ) → pass < game.capacity
    → CountsReachableOfPass game pass number → CountsAllReachable game all → number ≤ all
