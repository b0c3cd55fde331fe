-- Paths that grow at their end, and the volume of legal ones.
use Rattle.std.proofs.Common.{◌≡◌, ℕ, ◌+◌, ◌*◌, ◌<◌, ◌≤◌, Bool, List, [], ◌∷◌, ◌++◌, length, sum, refl, arith}
use Rattle.items.specs.Game.{GameNumbers}
use Rattle.items.specs.Packable.{Packable}
use Rattle.items.proofs.MultisetLemmas.{sum-put_ascending}
use Rattle.loads.specs.declared.position.Position.{Position}
use Rattle.loads.specs.After.{after}
use Rattle.packing_witness.proofs.PackableLemmas.{Packable-nil, Packable-put_ascending, sum-Packable-le}
use Rattle.packing_witness.proofs.PackingLemmas.{size_of_last}
use Rattle.monotone.specs.declared.path.PathMove.{PathMove}
use Rattle.loads.specs.Wins.{empty_position}
use Rattle.monotone.specs.Paths.{IsLegalMove, IsLegalFrom, IsLegalPath, position_after}

pub position_after-push : (start : Position) (path : List PathMove) (step : PathMove)
    → position_after start (path ++ step ∷ []) ≡ after (position_after start path) step.load step.item
position_after-push start [] step = refl
position_after-push start (s ∷ path) step = position_after-push (after start s.load s.item) path step

module _ (game : GameNumbers) (allowed : List ℕ → ℕ → Bool) where
  pub IsLegalFrom-push : (start : Position) (path : List PathMove) (step : PathMove) → IsLegalFrom game allowed start path
      → IsLegalMove game allowed (position_after start path) step → IsLegalFrom game allowed start (path ++ step ∷ [])
  IsLegalFrom-push start [] step h m = (m, tt)
  IsLegalFrom-push start (s ∷ path) step h m = (h.0, IsLegalFrom-push (after start s.load s.item) path step h.1 m)

  pub IsLegalFrom-parts : (start : Position) (path : List PathMove) (step : PathMove) → IsLegalFrom game allowed start (path ++ step ∷ [])
      → IsLegalFrom game allowed start path × IsLegalMove game allowed (position_after start path) step
  IsLegalFrom-parts start [] step h = (tt, h.0)
  IsLegalFrom-parts start (s ∷ path) step h =
      let rest = IsLegalFrom-parts (after start s.load s.item) path step h.1 in
      ((h.0, rest.0), rest.1)

  -- the items after a legal path are packable
  pub Packable-legal : (start : Position) (path : List PathMove) → Packable game start.items → IsLegalFrom game allowed start path
      → Packable game (position_after start path).items
  Packable-legal start [] p h = p
  Packable-legal start (s ∷ path) p h =
      Packable-legal (after start s.load s.item) path (Packable-put_ascending game start.items s.item h.0.packable) h.1

-- the total of the items of a path
abbrev pub volume_of : List PathMove → ℕ
volume_of [] = 0
volume_of (step ∷ path) = step.item + volume_of path

pub sum-position_after : (start : Position) (path : List PathMove) → sum (position_after start path).items ≡ sum start.items + volume_of path
sum-position_after start [] = omega arith
sum-position_after start (s ∷ path) =
    omega (arith, sum-position_after (after start s.load s.item) path, sum-put_ascending s.item start.items)

module _ (game : GameNumbers) (allowed : List ℕ → ℕ → Bool) where
  pub volume-le-bins : (path : List PathMove) → IsLegalPath game allowed path → volume_of path ≤ game.bins * game.capacity
  volume-le-bins path h =
      let packable = Packable-legal game allowed (empty_position game) path (Packable-nil game) h in
      omega (arith, sum-Packable-le game _ packable, sum-position_after (empty_position game) path)

  -- each item is at least 1
  pub positive_item : (position : Position) (step : PathMove) → IsLegalMove game allowed position step → 1 ≤ step.item
  positive_item position step h = (size_of_last game position.items step.item h.packable).low

  pub length-le-volume : (start : Position) (path : List PathMove) → IsLegalFrom game allowed start path → length path ≤ volume_of path
  length-le-volume start [] h = omega arith
  length-le-volume start (s ∷ path) h =
      omega (arith, positive_item start s h.0, length-le-volume (after start s.load s.item) path h.1)
