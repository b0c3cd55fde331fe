use Rattle.std.specs.Prelude.{ℕ, ◌+◌, ◌<◌, ◌≤◌, Bool, List, [], ◌∷◌, Contains}
use Rattle.items.specs.Game.{GameNumbers}
use Rattle.loads.specs.After.{after}
use Rattle.loads.specs.Wins.{IsWinningSize, IsWon, empty_position}
use Rattle.loads.specs.declared.position.Position.{Position}
use Rattle.good_situations.specs.Finish.{Finishes}
use Rattle.monotone.specs.Passes.{SearchSpace, allowed_in}
use Rattle.monotone.specs.Visits.{Visit, IsVisit, HasVisitsBefore}
use Rattle.monotone.specs.declared.path.PathMove.{PathMove}

-- what comes before a move at its position is decided: the position does not finish, the adversary wins by no larger
-- size, and with this size it wins at each larger load that stays below the target
pub record IsSettledMove (game : GameNumbers) (allowed : List ℕ → ℕ → Bool) (position : Position)
    (step : PathMove) : Type 0 where
  pub unfinished : Finishes game position.loads → ⊥
  pub larger_sizes : (size : ℕ) → step.item < size
      → IsWinningSize game allowed (IsWon game allowed) position size → ⊥
  pub larger_loads : (load : ℕ) → Contains position.loads load → step.load < load
      → load + step.item < game.target → IsWon game allowed (after position load step.item)

-- each move of a path is settled at the position before it
abbrev pub AreSettledFrom : GameNumbers → (List ℕ → ℕ → Bool) → Position → List PathMove → Type 0
AreSettledFrom game allowed position [] = Unit {0}
AreSettledFrom game allowed position (step ∷ path) =
    IsSettledMove game allowed position step
    × AreSettledFrom game allowed (after position step.load step.item) path

-- the adversary wins no pass before this one from the position before the first item
abbrev pub NoneWonBefore : SearchSpace → ℕ → Type 0
NoneWonBefore space pass =
    (earlier : ℕ) → space.first_pass ≤ earlier → earlier < pass
    → IsWon space.game (allowed_in space.sizes earlier) (empty_position space.game) → ⊥

-- what comes before a visit is decided: no earlier pass is won, and each move of its path is settled
pub record IsSettled (space : SearchSpace) (visited : Visit) : Type 0 where
  pub earlier_passes : NoneWonBefore space visited.pass
  pub moves : AreSettledFrom space.game (allowed_in space.sizes visited.pass) (empty_position space.game) visited.path

-- a visit at which a search with this budget ends: so many visits come before it, and what comes before it is decided
pub record IsDue (space : SearchSpace) (budget : ℕ) (due : Visit) : Type 0 where
  pub is_visit : IsVisit space due
  pub spent : HasVisitsBefore space budget due
  pub settled : IsSettled space due
