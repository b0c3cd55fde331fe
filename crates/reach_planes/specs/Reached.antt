use Rattle.std.specs.Prelude.{ℕ, ◌≤◌, List, map, All, Contains}
use Rattle.std.specs.List.{range_with_len}
use Rattle.items.specs.Game.{GameNumbers}
use Rattle.items.specs.Multiset.{Same}
use Rattle.items.specs.Packable.{IsAssignment, bin_total}
use Rattle.loads.specs.Descending.{IsDescending}

-- a game and the items sent in it so far, in their order
pub record ItemsSent : Type 0 where
  pub game : GameNumbers
  pub items : List ℕ

abbrev pub sent : GameNumbers → List ℕ → ItemsSent
sent game items = record { game = game; items = items }

-- the total of each bin under an assignment, by bin number
abbrev pub totals : GameNumbers → List ℕ → List ℕ → List ℕ
totals game items bins = map (λ bin. bin_total bin items bins) (range_with_len 0 game.bins)

-- some assignment of the items has these totals, but for the bins' numbers
abbrev pub HasTotals : GameNumbers → List ℕ → List ℕ → Type 0
HasTotals game items loads = (bins : List ℕ) × IsAssignment game items bins × Same (totals game items bins) loads

-- the totals of the bins under an assignment, in descending order
pub record AreLoadsOf (game : GameNumbers) (items bins loads : List ℕ) : Type 0 where
  pub assigned : IsAssignment game items bins
  pub descending : IsDescending loads
  pub same : Same (totals game items bins) loads

-- some assignment of the items has these sorted loads
abbrev pub IsReached : GameNumbers → List ℕ → List ℕ → Type 0
IsReached game items loads = (bins : List ℕ) × AreLoadsOf game items bins loads

-- the least load of a bin under any assignment of the items
pub record IsLeastLoad (game : GameNumbers) (items : List ℕ) (least : ℕ) : Type 0 where
  pub loads : List ℕ
  pub reached : IsReached game items loads
  pub member : Contains loads least
  pub bound : (others : List ℕ) → IsReached game items others → All (λ load. least ≤ load) others
