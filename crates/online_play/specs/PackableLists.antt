use Rattle.std.specs.Prelude.{ℕ, zero, suc, ◌*◌, Bool, ◌&&◌, nat_le, List, [], ◌∷◌, ◌++◌, length, map, filter}
use Rattle.std.specs.List.{range_with_len, flat_map, list_all, list_any}
use Rattle.items.specs.Game.{GameNumbers}
use Rattle.items.specs.Multiset.{sizes_of}
use Rattle.online_play.specs.Algorithm.{loads_by_bin}

-- the lists of this length with numbers from the choices
abbrev pub lists_of_length : List ℕ → ℕ → List (List ℕ)
lists_of_length choices zero = [] ∷ []
lists_of_length choices (suc n) = flat_map (λ rest. map (λ x. x ∷ rest) choices) (lists_of_length choices n)

-- the lists of at most this length with numbers from the choices
abbrev pub lists_up_to : List ℕ → ℕ → List (List ℕ)
lists_up_to choices zero = [] ∷ []
lists_up_to choices (suc n) = lists_up_to choices n ++ lists_of_length choices (suc n)

-- whether each item is a size from 1 to the capacity
abbrev pub are_sizes : GameNumbers → List ℕ → Bool
are_sizes game items = list_all (λ size. nat_le 1 size && nat_le size game.capacity) items

-- whether no bin's total is above the capacity when each item goes to the bin at its place
abbrev pub fits : GameNumbers → List ℕ → List ℕ → Bool
fits game items bins = list_all (λ total. nat_le total game.capacity) (loads_by_bin game items bins)

-- whether a list of items is packable, by trying every list of bins
unfoldable pub is_packable : GameNumbers → List ℕ → Bool
is_packable game items =
    are_sizes game items && list_any (fits game items) (lists_of_length (range_with_len 0 game.bins) (length items))

-- the packable lists of a game; none is longer than the bins' capacities together
unfoldable pub packable_lists : GameNumbers → List (List ℕ)
packable_lists game = filter (is_packable game) (lists_up_to (sizes_of game) (game.bins * game.capacity))
