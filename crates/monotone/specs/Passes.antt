use Rattle.std.specs.Prelude.{ℕ, Bool, ◌+◌, ◌-◌, ◌&&◌, ◌==◌, nat_le, List}
use Rattle.std.specs.List.{list_any}
use Rattle.items.specs.Game.{GameNumbers}
use Rattle.items.specs.Multiset.{largest_of, sizes_of}

-- a game, the sizes that may be sent in it, and its first pass; the last pass is the capacity less 1
pub record SearchSpace : Type 0 where
  pub game : GameNumbers
  pub sizes : List ℕ
  pub first_pass : ℕ

-- all sizes of the game, in all passes
abbrev pub whole_game : GameNumbers → SearchSpace
whole_game game = record { game = game; sizes = sizes_of game; first_pass = 0 }

-- these sizes alone, in the one pass that allows each of them
abbrev pub listed_sizes : GameNumbers → List ℕ → SearchSpace
listed_sizes game sizes = record { game = game; sizes = sizes; first_pass = game.capacity - 1 }

-- a pass allows each of the sizes that, with the number of the pass, is at least the largest item so far
abbrev pub allowed_in : List ℕ → ℕ → List ℕ → ℕ → Bool
allowed_in sizes pass items size = list_any (λ one. size == one) sizes && nat_le (largest_of items) (size + pass)

-- how many passes there are
abbrev pub passes_of : SearchSpace → ℕ
passes_of space = space.game.capacity - space.first_pass
