use Rattle.std.specs.Prelude.{◌≡◌, ℕ, ◌≤◌, ◌-◌, length}
use Rattle.minimax.specs.Settled.{IsDue}
use Rattle.monotone.specs.Passes.{listed_sizes}
use Rattle.monotone.specs.Visits.{visit}
use Rattle.strategy_text.specs.Text.{nodes_of}
use Rattle.listed_sizes.specs.Games.{IsLegalListed, ListedNumbers}
use Rattle.listed_sizes.specs.declared.solving.ListedAnswer.{ListedAnswer}
use Rattle.listed_sizes.specs.declared.solving.ListedAnswer.TheVariants.{Found, Undecided}
use Rattle.listed_sizes.specs.declared.strategy.ListedStrategy.{ListedStrategy}

-- a legal strategy for a game with these listed sizes, with at most so many nodes
pub record IsFoundFor (numbers : ListedNumbers) (budget : ℕ) (found : ListedStrategy) : Type 0 where
  pub legal : IsLegalListed found
  pub of_sizes : found.sizes ≡ numbers.sizes
  pub of_game : found.strategy.game ≡ numbers.game
  pub few : length (nodes_of found.strategy.nodes) ≤ budget

-- what a search of a game with listed sizes may answer with a budget: such a strategy, or the visit of the last pass at
-- which the budget ended
abbrev pub IsListedAnswer : ListedNumbers → ℕ → ListedAnswer → Type 0
IsListedAnswer numbers budget (Found found) = IsFoundFor numbers budget found
IsListedAnswer numbers budget (Undecided visits path) =
    (visits ≡ budget)
    × IsDue (listed_sizes numbers.game numbers.sizes) budget (visit (numbers.game.capacity - 1) path)

-- one of the sides wins
abbrev pub IsFoundSome : ListedAnswer → Type 0
IsFoundSome (Found found) = Unit {0}
IsFoundSome (Undecided visits path) = ⊥
