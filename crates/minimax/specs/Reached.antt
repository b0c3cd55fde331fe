-- Serves private contracts: which of the wins that a search kept are reached from one of them.
use Rattle.std.specs.Prelude.{◌≡◌, ℕ, ◌+◌, ◌<◌, ◌≤◌, Bool, true, List, Some, length, slice_get, All}
use Rattle.strategy_text.specs.declared.node.Then.{Then}
use Rattle.strategy_text.specs.declared.node.Then.TheVariants.{Over, To}
use Rattle.minimax.specs.declared.wins.Win.{Win}

-- the number is marked
abbrev pub IsMarked : List Bool → ℕ → Type 0
IsMarked marks number = slice_get marks number ≡ Some true

-- no mark was taken away, and all new ones are below a number
pub record MarksBelow (high : ℕ) (before after : List Bool) : Type 0 where
  pub as_many : length after ≡ length before
  pub keeps : (k : ℕ) → IsMarked before k → IsMarked after k
  pub only : (k : ℕ) → high ≤ k → IsMarked after k → IsMarked before k

-- what follows is over, or leads to a number below one
abbrev pub LeadsBelow : ℕ → Then → Type 0
LeadsBelow high Over = Unit {0}
LeadsBelow high (To child) = child < high

-- what follows is over, or leads to a marked number
abbrev pub LeadsToMarked : List Bool → Then → Type 0
LeadsToMarked marks Over = Unit {0}
LeadsToMarked marks (To child) = IsMarked marks child

-- a win was looked at: where it is marked, so is all that it leads to
pub record LooksAt (wins : List Win) (number : ℕ) (before after : List Bool) : Type 0 where
  pub below : MarksBelow number before after
  pub follow : (win : Win) → slice_get wins number ≡ Some win → IsMarked before number
      → All (λ placement. LeadsToMarked after placement.next) win.placements

-- marks up to a root, which is marked; of the wins from a number on, what the marked ones lead to is marked
pub record AreReached (wins : List Win) (root from : ℕ) (marks : List Bool) : Type 0 where
  pub up_to : length marks ≡ root + 1
  pub root_marked : IsMarked marks root
  pub follow : (k : ℕ) (win : Win) → from ≤ k → slice_get wins k ≡ Some win → IsMarked marks k
      → All (λ placement. LeadsToMarked marks placement.next) win.placements
