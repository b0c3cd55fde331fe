-- What a run is about.
use Rattle.std.specs.Prelude.{ℕ, List, Option}
use Rattle.items.specs.Game.{GameNumbers}

-- the players that may be asked for: the name of each, and what it answers by the game and the history
pub record Players : Type 0 where
  pub names : List (List ℕ)
  pub answers : List (GameNumbers → List ℕ → ℕ)

-- the players, the words, and what the source had left before and has left after
pub record Call : Type 0 where
  pub players : Players
  pub words : List (List ℕ)
  pub left : Option (List ℕ)
  pub new_left : Option (List ℕ)
