use Rattle.std.specs.Prelude.{ℕ, List, All}
use Rattle.items.specs.Game.{GameNumbers, IsGame}
use Rattle.items.specs.Multiset.{IsSize, sizes_of}
use Rattle.strategy_text.specs.declared.node.Format.{Format}

-- what a node is judged by: the format of its strategy, the game, and the sizes that items may have
pub record Terms : Type 0 where
  pub format : Format
  pub game : GameNumbers
  pub sizes : List ℕ

abbrev pub terms_of : Format → GameNumbers → List ℕ → Terms
terms_of format game sizes = record { format = format; game = game; sizes = sizes }

-- the whole game, with all its sizes
abbrev pub whole_game : Format → GameNumbers → Terms
whole_game format game = terms_of format game (sizes_of game)

-- the numbers are a game, and each size is one of its sizes
pub record AreTerms (terms : Terms) : Type 0 where
  pub of_game : IsGame terms.game
  pub sizes : All (IsSize terms.game.capacity) terms.sizes
