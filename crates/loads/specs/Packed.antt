-- Serves private contracts: how packed positions lie in memory.
use Rattle.std.specs.Prelude.{◌≡◌, ℕ, ◌<◌, ◌≤◌, List, [], ◌∷◌, ◌++◌, length, take}
use Rattle.std.specs.Prelude.{drop, slice_index}
use Rattle.items.specs.declared.limits.TheConstants.{MOST_SIZE}
use Rattle.items.specs.Multiset.{IsMultiset}
use Rattle.loads.specs.Loads.{AreLoads}
use Rattle.loads.specs.Position.{position}
use Rattle.loads.specs.declared.position.Position.{Position}

-- the bytes in which a position is kept: how many loads there are, the loads, and the items
abbrev pub bytes_of : Position → List ℕ
bytes_of position = length position.loads ∷ position.loads ++ position.items

-- the position that bytes stand for
abbrev pub position_in : List ℕ → Position
position_in [] = position [] []
position_in (bins ∷ bytes) = position (take bins bytes) (drop bins bytes)

-- the bytes of a position
pub record ArePositionBytes (bytes : List ℕ) : Type 0 where
  pub kept : bytes_of (position_in bytes) ≡ bytes
  pub loads : AreLoads (position_in bytes).loads
  pub items : IsMultiset MOST_SIZE (position_in bytes).items

-- the place at which a number is put into an ascending list
pub record IsPlaceOf (x : ℕ) (xs : List ℕ) (place : ℕ) : Type 0 where
  pub within : place ≤ length xs
  pub below : (k : ℕ) → k < place → slice_index xs k < x
  pub from : place < length xs → x ≤ slice_index xs place

-- the place at which a load that grew is put into descending loads
pub record IsPlaceOfGrown (grown : ℕ) (loads : List ℕ) (place : ℕ) : Type 0 where
  pub within : place < length loads
  pub above : (k : ℕ) → k < place → grown < slice_index loads k
  pub from : slice_index loads place ≤ grown
