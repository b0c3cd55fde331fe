use Rattle.std.specs.Prelude.{◌≡◌, ℕ, ◌+◌, ◌-◌, ◌*◌, ◌<◌, ◌≤◌, List, Some, None}
use Rattle.items.specs.Game.{GameNumbers, HasTarget, numbers}
use Rattle.items.specs.Multiset.{sizes_of}
use Rattle.loads.specs.Wins.{IsWon, empty_position}
use Rattle.online_play.specs.Algorithm.{ForcesEvery}
use Rattle.monotone.specs.Passes.{allowed_in, whole_game}
use Rattle.monotone.specs.Positions.{CountsAllReachable}
use Rattle.monotone.specs.Visits.{most_visits, visit}
use Rattle.monotone.specs.declared.path.PathMove.{PathMove}
use Rattle.strategy_text.specs.declared.node.Strategy.{Strategy}
use Rattle.adversary_graph.specs.Pools.{IsLegalOfAdversary}
use Rattle.algorithm_graph.specs.Pools.{IsLegalOfAlgorithm}
use Rattle.minimax.specs.Answers.{IsFor}
use Rattle.minimax.specs.Budgets.{AreNumbersOfReachable, HasRoom, reachable_before}
use Rattle.minimax.specs.Settled.{IsDue}
use Rattle.bound_value.specs.Values.{IsValueOf}
use Rattle.bound_value.specs.declared.valued.Valued.{Valued}
use Rattle.bound_value.specs.declared.valued.Valued.TheVariants.{At, Nowhere, Undecided}

-- a legal strategy of the adversary for a game, of format 1 and with at most so many nodes
pub record ShowsForced (game : GameNumbers) (budget : ℕ) (strategy : Strategy) : Type 0 where
  pub legal : IsLegalOfAdversary strategy
  pub for_game : IsFor game budget strategy

-- a legal strategy of the algorithm for a game, of format 1 and with at most so many nodes
pub record ShowsKept (game : GameNumbers) (budget : ℕ) (strategy : Strategy) : Type 0 where
  pub legal : IsLegalOfAlgorithm strategy
  pub for_game : IsFor game budget strategy

-- the value, with a strategy of the adversary for it and one of the algorithm for the next target
pub record IsShownAt (bins capacity budget target : ℕ) (adversary algorithm : Strategy) : Type 0 where
  pub adversary_wins : ShowsForced (numbers bins capacity target) budget adversary
  pub algorithm_wins : ShowsKept (numbers bins capacity (target + 1)) budget algorithm
  pub is_value : IsValueOf bins capacity (Some target)

-- there is no value, with a strategy of the algorithm for the least target
pub record IsShownNowhere (bins capacity budget : ℕ) (algorithm : Strategy) : Type 0 where
  pub algorithm_wins : ShowsKept (numbers bins capacity (capacity + 1)) budget algorithm
  pub no_value : IsValueOf bins capacity None

-- the visit at which the budget ended in the game of a target; every algorithm is forced at the target below it
pub record IsOpenAt (bins capacity budget target visits pass : ℕ) (path : List PathMove) : Type 0 where
  pub of_game : HasTarget capacity target
  pub spent : visits ≡ budget
  pub due : IsDue (whole_game (numbers bins capacity target)) budget (visit pass path)
  pub forced_below : capacity + 1 < target → ForcesEvery (numbers bins capacity (target - 1))

-- what a search for the value of so many bins of a capacity may answer, with a budget of visits for each target
abbrev pub IsValued : ℕ → ℕ → ℕ → Valued → Type 0
IsValued bins capacity budget (At target adversary algorithm) =
    IsShownAt bins capacity budget target adversary algorithm
IsValued bins capacity budget (Nowhere algorithm) = IsShownNowhere bins capacity budget algorithm
IsValued bins capacity budget (Undecided target visits pass path) =
    IsOpenAt bins capacity budget target visits pass path

-- the search of this target was not decided, if any was not
abbrev pub IfUndecided : Valued → (ℕ → Type 0) → Type 0
IfUndecided (At target adversary algorithm) P = Unit {0}
IfUndecided (Nowhere algorithm) P = Unit {0}
IfUndecided (Undecided target visits pass path) P = P target

-- the value, or that there is none, is found
abbrev pub IsDecided : Valued → Type 0
IsDecided valued = IfUndecided valued (λ target. ⊥)

-- a budget that is less than what surely decides a game, by a table of so many entries
pub record FallsShort (game : GameNumbers) (budget table : ℕ) : Type 0 where
  -- all visits that there are
  pub all_visits : budget < most_visits (whole_game game)
  -- where the table has room for all positions at which legal paths end, as many visits in each pass
  pub all_positions : (all : ℕ) → CountsAllReachable game all → all ≤ table → budget < game.capacity * all
  -- then also the positions at which the legal paths of each pass end, all passes together
  pub each_pass : (numbers : ℕ → ℕ) → AreNumbersOfReachable game numbers → HasRoom game table
      → budget < reachable_before numbers game.capacity
  -- and where the adversary wins a pass, those of the passes up to it
  pub won_pass : (numbers : ℕ → ℕ) (pass : ℕ) → AreNumbersOfReachable game numbers → HasRoom game table
      → IsWon game (allowed_in (sizes_of game) pass) (empty_position game) → budget < reachable_before numbers (pass + 1)
