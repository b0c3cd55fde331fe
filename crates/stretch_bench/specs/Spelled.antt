-- What the private contracts of readers of words cite; nothing here has to be believed.
use Rattle.std.specs.Prelude.{◌≡◌, ℕ, List, decimal}
use Rattle.items.specs.Game.{GameNumbers, IsGame}

-- three words tell the numbers of a game
pub record IsGameOf (bins capacity target : List ℕ) (game : GameNumbers) : Type 0 where
  pub of_game : IsGame game
  pub bins_are : bins ≡ decimal game.bins
  pub capacity_is : capacity ≡ decimal game.capacity
  pub target_is : target ≡ decimal game.target
