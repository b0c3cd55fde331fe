use Rattle.std.specs.Prelude.{◌≡◌, ℕ, ◌+◌, ◌<◌, ◌⊎◌, Bool, IsTrue, List, [], ◌∷◌, ◌++◌, Contains}
use Rattle.items.specs.Game.{GameNumbers}
use Rattle.items.specs.Packable.{Packable}
use Rattle.loads.specs.declared.position.Position.{Position}
use Rattle.loads.specs.After.{after}
use Rattle.loads.specs.Wins.{empty_position}
use Rattle.monotone.specs.declared.path.PathMove.{PathMove}

-- the move of an item of this size to a bin of this load
abbrev pub moved : ℕ → ℕ → PathMove
moved item load = record { item = item; load = load }

-- the larger item comes first, and of equal items the one that goes to the larger load
abbrev pub IsEarlierMove : PathMove → PathMove → Type 0
IsEarlierMove first second = (second.item < first.item) ⊎ ((first.item ≡ second.item) × (second.load < first.load))

-- the first path comes before the second: a proper prefix does, else the first difference decides
abbrev pub ComesBefore : List PathMove → List PathMove → Type 0
ComesBefore first [] = ⊥
ComesBefore [] (b ∷ second) = Unit {0}
ComesBefore (a ∷ first) (b ∷ second) = IsEarlierMove a b ⊎ ((a ≡ b) × ComesBefore first second)

-- the position after the moves of a path
abbrev pub position_after : Position → List PathMove → Position
position_after position [] = position
position_after position (step ∷ path) = position_after (after position step.load step.item) path

-- a move that a test of items and sizes allows, that keeps the items packable and stays below the target
pub record IsLegalMove (game : GameNumbers) (allowed : List ℕ → ℕ → Bool) (position : Position)
    (step : PathMove) : Type 0 where
  pub allowed_size : IsTrue (allowed position.items step.item)
  pub packable : Packable game (position.items ++ step.item ∷ [])
  pub has_load : Contains position.loads step.load
  pub below_target : step.load + step.item < game.target

-- each move is legal at the position before it
abbrev pub IsLegalFrom : GameNumbers → (List ℕ → ℕ → Bool) → Position → List PathMove → Type 0
IsLegalFrom game allowed position [] = Unit {0}
IsLegalFrom game allowed position (step ∷ path) =
    IsLegalMove game allowed position step × IsLegalFrom game allowed (after position step.load step.item) path

-- each move is legal, from the position before the first item on
abbrev pub IsLegalPath : GameNumbers → (List ℕ → ℕ → Bool) → List PathMove → Type 0
IsLegalPath game allowed path = IsLegalFrom game allowed (empty_position game) path
