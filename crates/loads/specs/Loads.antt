use Rattle.std.specs.Prelude.{◌≡◌, ◌≢◌, ℕ, ◌+◌, ◌*◌, ◌<◌, ◌≤◌, List, length, slice_index, All}
use Rattle.items.specs.declared.limits.TheConstants.{MOST_BINS, MOST_SIZE}
use Rattle.items.specs.Game.{GameNumbers}
use Rattle.loads.specs.Descending.{IsDescending, put_descending, take_out}

-- as many loads as the game has bins, descending, each below the target
pub record IsLoads (game : GameNumbers) (loads : List ℕ) : Type 0 where
  pub one_each : length loads ≡ game.bins
  pub descending : IsDescending loads
  pub below_target : All (λ load. load < game.target) loads

-- loads of some game: no more than the most bins, descending, each below the greatest target
pub record AreLoads (loads : List ℕ) : Type 0 where
  pub few : length loads ≤ MOST_BINS
  pub descending : IsDescending loads
  pub below : All (λ load. load < 2 * MOST_SIZE) loads

-- the loads after an item of this size went to one bin of this load
abbrev pub loads_after : List ℕ → ℕ → ℕ → List ℕ
loads_after loads load size = put_descending (load + size) (take_out load loads)

-- the lowest bin that has this load, the bins being numbered from 0
pub record IsLowestBin (actual : List ℕ) (load bin : ℕ) : Type 0 where
  pub in_range : bin < length actual
  pub has_load : slice_index actual bin ≡ load
  pub lowest : (lower : ℕ) → lower < bin → slice_index actual lower ≢ load
