use Rattle.std.specs.Prelude.{◌≢◌, ℕ, ◌<◌, ◌≤◌, List, [], ◌∷◌, map, All, Any}
use Rattle.std.specs.List.{range_with_len}
use Rattle.items.specs.Game.{GameNumbers}
use Rattle.items.specs.Packable.{Packable, bin_total}

-- a deterministic online algorithm of the game: a function that answers, for each nonempty packable list of items,
-- a bin for the last item of the list. It may look at the whole list.
abbrev pub IsAlgorithm : GameNumbers → (List ℕ → ℕ) → Type 0
IsAlgorithm game answer = (items : List ℕ) → items ≢ [] → Packable game items → answer items < game.bins

-- the nonempty prefixes of a list, the shortest first
abbrev pub prefixes : List ℕ → List (List ℕ)
prefixes [] = []
prefixes (item ∷ items) = (item ∷ []) ∷ map (λ prefix. item ∷ prefix) (prefixes items)

-- the bins that an algorithm gives to the items of a list: its answers on the nonempty prefixes
abbrev pub bins_of : (List ℕ → ℕ) → List ℕ → List ℕ
bins_of answer items = map answer (prefixes items)

-- the loads by bin number when each item went to the bin that stands at its place in a list of bins
abbrev pub loads_by_bin : GameNumbers → List ℕ → List ℕ → List ℕ
loads_by_bin game items bins = map (λ bin. bin_total bin items bins) (range_with_len 0 game.bins)

-- the loads by bin number after an algorithm placed each item of a list
abbrev pub run : GameNumbers → (List ℕ → ℕ) → List ℕ → List ℕ
run game answer items = loads_by_bin game items (bins_of answer items)

-- a packable list of items on which a load of the algorithm reaches the target
pub record IsForcedOn (game : GameNumbers) (answer : List ℕ → ℕ) (items : List ℕ) : Type 0 where
  pub packable : Packable game items
  pub reached : Any (λ load. game.target ≤ load) (run game answer items)

-- the algorithm is forced: there is a packable list of items on which one of its loads reaches the target
abbrev pub Forced : GameNumbers → (List ℕ → ℕ) → Type 0
Forced game answer = (items : List ℕ) × IsForcedOn game answer items

-- the algorithm keeps below the target: on every packable list of items all of its loads are below it
abbrev pub KeepsBelow : GameNumbers → (List ℕ → ℕ) → Type 0
KeepsBelow game answer =
    (items : List ℕ) → Packable game items → All (λ load. load < game.target) (run game answer items)

-- the game forces every deterministic online algorithm
abbrev pub ForcesEvery : GameNumbers → Type 0
ForcesEvery game = (answer : List ℕ → ℕ) → IsAlgorithm game answer → Forced game answer
