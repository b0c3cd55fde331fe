-- Serves private contracts and proofs: the packing that an assignment makes.
use Rattle.std.specs.Prelude.{◌==◌, ℕ, List, [], ◌∷◌, if◌then◌else◌, map}
use Rattle.std.specs.List.{range_with_len}

-- the items whose place in the list of bins names this bin
abbrev pub items_in : ℕ → List ℕ → List ℕ → List ℕ
items_in bin [] bins = []
items_in bin (item ∷ items) [] = []
items_in bin (item ∷ items) (b ∷ bins) = if bin == b then item ∷ items_in bin items bins else items_in bin items bins

-- the items of each of a number of bins
abbrev pub contents_of : List ℕ → List ℕ → ℕ → List (List ℕ)
contents_of items bins number = map (λ bin. items_in bin items bins) (range_with_len 0 number)
