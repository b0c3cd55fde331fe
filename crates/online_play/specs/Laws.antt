use Rattle.std.specs.Prelude.{◌≡◌, ◌<◌, ◌≤◌, ◌↔◌, ℕ, Bool, IsTrue, List, [], ◌∷◌, ◌++◌, All, Contains, length}
use Rattle.std.specs.Prelude.{replicate, sum}
use Rattle.items.specs.Game.{GameNumbers, numbers}
use Rattle.items.specs.Multiset.{Same}
use Rattle.items.specs.Packable.{Packable}
use Rattle.loads.specs.declared.position.Position.{Position}
use Rattle.loads.specs.Wins.{Wins, IsWon, empty_position}
use Rattle.loads.specs.ByBin.{placed}
use Rattle.online_play.specs.Algorithm.{IsAlgorithm, bins_of, loads_by_bin, run}
use Rattle.online_play.specs.Algorithm.{Forced, KeepsBelow, ForcesEvery}
use Rattle.online_play.specs.PackableLists.{is_packable, packable_lists}

-- no algorithm is both forced and below the target on every packable list
abbrev pub ForcedIsNotBelow : Type 0
ForcedIsNotBelow = (game : GameNumbers) (answer : List ℕ → ℕ) → Forced game answer → KeepsBelow game answer → ⊥

-- a game that forces every algorithm forces every algorithm at a lower target too
abbrev pub LowerTargetsForce : Type 0
LowerTargetsForce =
    (game : GameNumbers) (target : ℕ) → target ≤ game.target → ForcesEvery game
    → ForcesEvery (numbers game.bins game.capacity target)

-- the test tells the packable lists
abbrev pub PackableIsTested : Type 0
PackableIsTested = (game : GameNumbers) (items : List ℕ) → IsTrue (is_packable game items) ↔ Packable game items

-- the packable lists of a game can be written out
abbrev pub PackableListsAreWritten : Type 0
PackableListsAreWritten =
    (game : GameNumbers) (items : List ℕ) → Contains (packable_lists game) items ↔ Packable game items

-- the bins of a list with one more item are those of the list and the answer for that item
abbrev pub BinsGoOn : Type 0
BinsGoOn =
    (answer : List ℕ → ℕ) (items : List ℕ) (size : ℕ)
    → bins_of answer (items ++ size ∷ []) ≡ bins_of answer items ++ answer (items ++ size ∷ []) ∷ []

-- the loads by bin number, given bins for the items, change by one more item as its bin's load does
abbrev pub LoadsGoOn : Type 0
LoadsGoOn =
    (game : GameNumbers) (items bins : List ℕ) (size bin : ℕ) → length bins ≡ length items → bin < game.bins
    → loads_by_bin game (items ++ size ∷ []) (bins ++ bin ∷ []) ≡ placed (loads_by_bin game items bins) bin size

-- the run of a list with one more item is that of the list with the item in the bin that is answered for it
abbrev pub RunsGoOn : Type 0
RunsGoOn =
    (game : GameNumbers) (answer : List ℕ → ℕ) (items : List ℕ) (size bin : ℕ) → answer (items ++ size ∷ []) ≡ bin
    → bin < game.bins → run game answer (items ++ size ∷ []) ≡ placed (run game answer items) bin size

-- before the first item each bin's load is 0
abbrev pub RunsBeginAtZero : Type 0
RunsBeginAtZero = (game : GameNumbers) (answer : List ℕ → ℕ) → run game answer [] ≡ replicate game.bins 0

-- no load of a run is above the total of the items
abbrev pub LoadsAreWithinTheTotal : Type 0
LoadsAreWithinTheTotal =
    (game : GameNumbers) (answer : List ℕ → ℕ) (items : List ℕ) → All (λ load. load ≤ sum items) (run game answer items)

-- a position that is won with at most so many items is won with at most more
abbrev pub WonWithMoreItems : Type 0
WonWithMoreItems =
    (game : GameNumbers) (allowed : List ℕ → ℕ → Bool) (few many : ℕ) (position : Position) → few ≤ many
    → Wins game allowed few position → Wins game allowed many position

-- a position that is won stays won when more sizes are allowed
abbrev pub WonWithMoreSizes : Type 0
WonWithMoreSizes =
    (game : GameNumbers) (allowed wider : List ℕ → ℕ → Bool) (n : ℕ) (position : Position)
    → ((items : List ℕ) (size : ℕ) → IsTrue (allowed items size) → IsTrue (wider items size))
    → Wins game allowed n position → Wins game wider n position

-- a position that is won is won at a lower target too
abbrev pub WonAtLowerTargets : Type 0
WonAtLowerTargets =
    (game : GameNumbers) (target : ℕ) (allowed : List ℕ → ℕ → Bool) (n : ℕ) (position : Position) → target ≤ game.target
    → Wins game allowed n position → Wins (numbers game.bins game.capacity target) allowed n position

-- a history brings an algorithm to a position, but for the numbers of the bins and the order of the items
pub record ComesTo (game : GameNumbers) (answer : List ℕ → ℕ) (history : List ℕ) (position : Position) : Type 0 where
  pub packable : Packable game history
  pub loads : Same (run game answer history) position.loads
  pub items : Same history position.items

-- an algorithm that came to a position from which the adversary wins is forced, whatever the history
abbrev pub WonPositionsForce : Type 0
WonPositionsForce =
    (game : GameNumbers) (allowed : List ℕ → ℕ → Bool) (answer : List ℕ → ℕ) (history : List ℕ) (position : Position)
    → IsAlgorithm game answer → ComesTo game answer history position → IsWon game allowed position → Forced game answer

-- where the adversary wins from the position before the first item, every algorithm is forced
abbrev pub WonGamesForceEvery : Type 0
WonGamesForceEvery =
    (game : GameNumbers) (allowed : List ℕ → ℕ → Bool) → IsWon game allowed (empty_position game) → ForcesEvery game

-- a position of as many loads as bins, all 0, and of no items is the one before the first item
abbrev pub EmptyPositionsAreAlike : Type 0
EmptyPositionsAreAlike =
    (game : GameNumbers) (position : Position) → length position.loads ≡ game.bins
    → All (λ load. load ≡ 0) position.loads → position.items ≡ [] → position ≡ empty_position game
