-- What the private contracts of the search for a value cite; nothing here has to be believed.
use Rattle.std.specs.Prelude.{◌≡◌, ℕ, ◌+◌, ◌-◌, ◌<◌, Option, Some, None}
use Rattle.items.specs.Game.{GameNumbers, numbers}
use Rattle.strategy_text.specs.declared.node.Strategy.{Strategy}
use Rattle.minimax.specs.declared.answer.Answer.{Answer}
use Rattle.minimax.specs.declared.answer.Answer.TheVariants.{Adversary, Algorithm, Undecided}
use Rattle.bound_value.specs.Answers.{FallsShort, ShowsForced}

-- where the search of a game was not decided, the budget is less than what surely decides it
abbrev pub FallsShortIfUndecided : GameNumbers → ℕ → ℕ → Answer → Type 0
FallsShortIfUndecided game budget table (Adversary strategy) = Unit {0}
FallsShortIfUndecided game budget table (Algorithm strategy) = Unit {0}
FallsShortIfUndecided game budget table (Undecided visits pass path) = FallsShort game budget table

-- what was found below a target: nothing where it is the least, else a strategy of the adversary for the target before
abbrev pub IsFoundBelow : ℕ → ℕ → ℕ → ℕ → Option Strategy → Type 0
IsFoundBelow bins capacity budget target None = target ≡ capacity + 1
IsFoundBelow bins capacity budget target (Some strategy) =
    (capacity + 1 < target) × ShowsForced (numbers bins capacity (target - 1)) budget strategy
