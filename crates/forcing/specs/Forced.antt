-- What a search for the adversary's side comes to.
use Rattle.std.specs.Prelude.{◌≡◌, ℕ, ◌≤◌}
use Rattle.items.specs.Game.{GameNumbers}
use Rattle.adversary_graph.specs.Pools.{IsLegalOfAdversary}
use Rattle.strategy_text.specs.declared.node.Format.TheVariants.{Two}
use Rattle.strategy_text.specs.declared.node.Strategy.{Strategy}
use Rattle.forcing.specs.declared.forced.Forced.{Forced}
use Rattle.forcing.specs.declared.forced.Forced.TheVariants.{Found, NotFound}

-- a legal strategy of the adversary for a game, in format 2
pub record IsSought (game : GameNumbers) (strategy : Strategy) : Type 0 where
  pub legal : IsLegalOfAdversary strategy
  pub of_game : strategy.game ≡ game
  pub of_format : strategy.format ≡ Two

-- such a strategy, or how many visits were made without one, which are at most the budget
abbrev pub IsForced : GameNumbers → ℕ → Forced → Type 0
IsForced game budget (Found strategy) = IsSought game strategy
IsForced game budget (NotFound visits) = visits ≤ budget
