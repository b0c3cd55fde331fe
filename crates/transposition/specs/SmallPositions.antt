-- Serves private contracts, but for are_small: how positions with few and small items lie in memory.
use Rattle.std.specs.Prelude.{◌≡◌, ◌&&◌, ◌-◌, ◌≤◌, ◌++◌, Bool, ℕ, List, [], ◌∷◌, if◌then◌else◌, nat_le}
use Rattle.std.specs.Prelude.{length, replicate, sum, take}
use Rattle.items.specs.declared.limits.TheConstants.{MOST_BINS}
use Rattle.items.specs.Counters.{counters_of, expanded}
use Rattle.items.specs.Multiset.{largest_of}
use Rattle.loads.specs.Loads.{AreLoads}
use Rattle.loads.specs.Packed.{bytes_of}
use Rattle.loads.specs.Position.{position}
use Rattle.loads.specs.declared.position.Position.{Position}
use Rattle.transposition.specs.declared.small_position.TheConstants.{SIZES, MOST_SMALL_VOLUME}

-- whether the items have sizes up to 32 alone and a total of at most 255, so that a byte counts each size
abbrev pub are_small : List ℕ → Bool
are_small items = nat_le (largest_of items) SIZES && nat_le (sum items) MOST_SMALL_VOLUME

-- the loads, and a 0 for each bin that the game does not have
abbrev pub padded : List ℕ → List ℕ
padded loads = loads ++ replicate (MOST_BINS - length loads) 0

-- the position of the first loads and of the items that the counters stand for
abbrev pub counted_position : ℕ → List ℕ → List ℕ → Position
counted_position bins loads counters = position (take bins loads) (expanded 1 counters)

-- the loads of so many bins, the counters of items with a small total, and this total
pub record IsSmallPosition (bins volume : ℕ) (loads counters : List ℕ) : Type 0 where
  pub few : bins ≤ MOST_BINS
  pub legal : AreLoads (take bins loads)
  pub rest : padded (take bins loads) ≡ loads
  pub total : sum (expanded 1 counters) ≤ MOST_SMALL_VOLUME
  pub volume_is : volume ≡ sum (expanded 1 counters)

-- what a hash takes in of these loads and items
unfoldable pub hashed : List ℕ → List ℕ → List (List ℕ)
hashed loads items =
    if are_small items then padded loads ∷ take SIZES (counters_of items) ∷ [] else bytes_of (position loads items) ∷ []
