use Rattle.std.specs.Prelude.{ℕ, ◌*◌, ◌<◌, ◌≤◌}
use Rattle.items.specs.declared.limits.TheConstants.{MOST_BINS, MOST_SIZE}

-- the numbers of a game: how many bins, the capacity of each offline, and the load at which the algorithm loses
pub record GameNumbers : Type 0 where
  pub bins : ℕ
  pub capacity : ℕ
  pub target : ℕ

abbrev pub numbers : ℕ → ℕ → ℕ → GameNumbers
numbers bins capacity target = record { bins = bins; capacity = capacity; target = target }

-- 2 to 8 bins
pub record HasBins (bins : ℕ) : Type 0 where
  pub low : 2 ≤ bins
  pub high : bins ≤ MOST_BINS

-- a capacity from 1 to 120
pub record HasCapacity (capacity : ℕ) : Type 0 where
  pub low : 1 ≤ capacity
  pub high : capacity ≤ MOST_SIZE

-- a target above the capacity and at most twice the capacity
pub record HasTarget (capacity target : ℕ) : Type 0 where
  pub low : capacity < target
  pub high : target ≤ 2 * capacity

-- the numbers are those of a game
pub record IsGame (game : GameNumbers) : Type 0 where
  pub bins : HasBins game.bins
  pub capacity : HasCapacity game.capacity
  pub target : HasTarget game.capacity game.target
