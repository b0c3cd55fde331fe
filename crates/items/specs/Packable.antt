use Rattle.std.specs.Prelude.{◌≡◌, ◌==◌, ℕ, ◌+◌, ◌<◌, ◌≤◌, List, [], ◌∷◌, ◌++◌, if◌then◌else◌, length, sum, All}
use Rattle.std.specs.List.{concat}
use Rattle.items.specs.Game.{GameNumbers}
use Rattle.items.specs.Multiset.{IsSize, Same}

-- the total of the items whose place in the list of bins names this bin
abbrev pub bin_total : ℕ → List ℕ → List ℕ → ℕ
bin_total bin [] bins = 0
bin_total bin (item ∷ items) [] = 0
bin_total bin (item ∷ items) (b ∷ bins) = (if bin == b then item else 0) + bin_total bin items bins

-- a bin for each item, such that each bin's items sum to at most the capacity
pub record IsAssignment (game : GameNumbers) (items bins : List ℕ) : Type 0 where
  pub item_list : All (IsSize game.capacity) items
  pub one_each : length bins ≡ length items
  pub of_game : All (λ bin. bin < game.bins) bins
  pub fits : (bin : ℕ) → bin < game.bins → bin_total bin items bins ≤ game.capacity

-- some assignment exists
abbrev pub Packable : GameNumbers → List ℕ → Type 0
Packable game items = (bins : List ℕ) × IsAssignment game items bins

-- as many lists as bins, each summing to at most the capacity, that together are the multiset of the items
pub record IsPacking (game : GameNumbers) (bins : List (List ℕ)) (items : List ℕ) : Type 0 where
  pub one_each : length bins ≡ game.bins
  pub fits : All (λ bin. sum bin ≤ game.capacity) bins
  pub together : Same (concat bins) items

-- the greatest size that may come next, and 0 where there is none
pub record IsRoom (game : GameNumbers) (items : List ℕ) (room : ℕ) : Type 0 where
  pub within : room ≤ game.capacity
  pub may_come : 1 ≤ room → Packable game (items ++ room ∷ [])
  pub greatest : (size : ℕ) → room < size → size ≤ game.capacity → Packable game (items ++ size ∷ []) → ⊥
