use Rattle.std.specs.Prelude.{◌≡◌, ℕ, ◌*◌, ◌<◌, ◌≤◌, Option, Some, List}
use Rattle.items.specs.Game.{HasBins, HasCapacity, numbers}
use Rattle.monotone.specs.Positions.{CountsAllReachable, CountsReachableOfPass}
use Rattle.online_play.specs.Algorithm.{IsAlgorithm, KeepsBelow}
use Rattle.bound_value.specs.Values.{IsForced, IsValueOf}

-- a lower target that is one of a game forces every algorithm where a higher one does
abbrev pub LowerTargetsAreForced : Type 0
LowerTargetsAreForced =
    (bins capacity lower higher : ℕ) → capacity < lower → lower ≤ higher → IsForced bins capacity higher
    → IsForced bins capacity lower

-- at twice the capacity some algorithm keeps below the target
abbrev pub TwiceTheCapacityIsKept : Type 0
TwiceTheCapacityIsKept =
    (bins capacity : ℕ) → HasBins bins → HasCapacity capacity
    → let game = numbers bins capacity (2 * capacity) in
    (answer : List ℕ → ℕ) × IsAlgorithm game answer × KeepsBelow game answer

-- there is at most one value
abbrev pub OneValue : Type 0
OneValue =
    (bins capacity : ℕ) (one other : Option ℕ) → IsValueOf bins capacity one → IsValueOf bins capacity other
    → one ≡ other

-- up to the value each target forces every algorithm, and the value is below twice the capacity
abbrev pub ValuesSplitTargets : Type 0
ValuesSplitTargets =
    (bins capacity value target : ℕ) → IsValueOf bins capacity (Some value) → capacity < target → target ≤ value
    → IsForced bins capacity target

abbrev pub ValuesAreBelowTwice : Type 0
ValuesAreBelowTwice =
    (bins capacity value : ℕ) → HasBins bins → HasCapacity capacity → IsValueOf bins capacity (Some value)
    → value < 2 * capacity

-- at a higher target the legal paths of a pass end at no fewer positions
abbrev pub ReachableGrowWithTheTarget : Type 0
ReachableGrowWithTheTarget =
    (bins capacity lower higher pass few many : ℕ) → lower ≤ higher
    → CountsReachableOfPass (numbers bins capacity lower) pass few
    → CountsReachableOfPass (numbers bins capacity higher) pass many → few ≤ many

-- and the legal paths of all passes too
abbrev pub AllReachableGrowWithTheTarget : Type 0
AllReachableGrowWithTheTarget =
    (bins capacity lower higher few many : ℕ) → lower ≤ higher
    → CountsAllReachable (numbers bins capacity lower) few → CountsAllReachable (numbers bins capacity higher) many
    → few ≤ many
