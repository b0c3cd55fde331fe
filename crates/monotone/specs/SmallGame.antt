use Rattle.std.specs.Prelude.{List, [], ◌∷◌}
use Rattle.items.specs.Game.{numbers}
use Rattle.items.specs.Multiset.{sizes_of}
use Rattle.loads.specs.declared.position.Position.{Position}
use Rattle.loads.specs.Position.{position}
use Rattle.monotone.specs.Passes.{allowed_in}
use Rattle.monotone.specs.Positions.{AreReachable}

-- the ten reachable positions of the game of 2 bins of capacity 2 with target 3
abbrev pub ten_positions : List Position
ten_positions =
    position (0 ∷ 0 ∷ []) []
    ∷ position (2 ∷ 0 ∷ []) (2 ∷ [])
    ∷ position (2 ∷ 2 ∷ []) (2 ∷ 2 ∷ [])
    ∷ position (1 ∷ 0 ∷ []) (1 ∷ [])
    ∷ position (2 ∷ 1 ∷ []) (1 ∷ 2 ∷ [])
    ∷ position (2 ∷ 0 ∷ []) (1 ∷ 1 ∷ [])
    ∷ position (2 ∷ 2 ∷ []) (1 ∷ 1 ∷ 2 ∷ [])
    ∷ position (1 ∷ 1 ∷ []) (1 ∷ 1 ∷ [])
    ∷ position (2 ∷ 1 ∷ []) (1 ∷ 1 ∷ 1 ∷ [])
    ∷ position (2 ∷ 2 ∷ []) (1 ∷ 1 ∷ 1 ∷ 1 ∷ [])
    ∷ []

-- in its last pass these positions are reachable, and no others
abbrev pub SmallGameHasTenReachable : Type 0
SmallGameHasTenReachable = AreReachable (numbers 2 2 3) (allowed_in (sizes_of (numbers 2 2 3)) 1) ten_positions
