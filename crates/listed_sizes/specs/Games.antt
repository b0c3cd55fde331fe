-- Games with listed sizes, and their strategies.
use Rattle.std.specs.Prelude.{◌≡◌, ℕ, List}
use Rattle.checker.specs.Listed.{IsLegalOver, listed_text_of}
use Rattle.items.specs.Game.{GameNumbers, IsGame}
use Rattle.items.specs.Multiset.{AreSizes}
use Rattle.listed_sizes.specs.declared.strategy.ListedStrategy.{ListedStrategy}

-- the numbers of a game, and the sizes that its items may have
pub record ListedNumbers : Type 0 where
  pub game : GameNumbers
  pub sizes : List ℕ

abbrev pub listed : GameNumbers → List ℕ → ListedNumbers
listed game sizes = record { game = game; sizes = sizes }

-- a game with listed sizes: the numbers are a game, and the list is not empty, strictly ascends, and has sizes of the
-- game alone
pub record IsListedGame (numbers : ListedNumbers) : Type 0 where
  pub of_game : IsGame numbers.game
  pub are_sizes : AreSizes numbers.game.capacity numbers.sizes

-- a legal strategy with listed sizes
abbrev pub IsLegalListed : ListedStrategy → Type 0
IsLegalListed one = IsLegalOver one.sizes one.strategy

-- its text
abbrev pub text_of_listed : ListedStrategy → List ℕ
text_of_listed one = listed_text_of one.sizes one.strategy
