use Rattle.std.specs.Prelude.{◌≡◌, ℕ, ◌≤◌, List, length}
use Rattle.items.specs.Game.{GameNumbers}
use Rattle.strategy_text.specs.Text.{nodes_of}
use Rattle.strategy_text.specs.declared.node.Strategy.{Strategy}
use Rattle.strategy_text.specs.declared.node.Format.{Format}
use Rattle.strategy_text.specs.declared.node.Format.TheVariants.{One}
use Rattle.strategy_text.specs.declared.node.Nodes.{Nodes}
use Rattle.strategy_text.specs.declared.node.Nodes.TheVariants as sides
use Rattle.adversary_graph.specs.Legal as adversary
use Rattle.algorithm_graph.specs.Legal as algorithm
use Rattle.adversary_graph.specs.Pools.{IsLegalOfAdversary}
use Rattle.algorithm_graph.specs.Pools.{IsLegalOfAlgorithm}
use Rattle.monotone.specs.Passes.{SearchSpace, whole_game}
use Rattle.monotone.specs.Visits.{visit}
use Rattle.minimax.specs.Settled.{IsDue}
use Rattle.minimax.specs.declared.answer.Answer.{Answer}
use Rattle.minimax.specs.declared.answer.Answer.TheVariants.{Adversary, Algorithm, Undecided}

-- a strategy of format 1 for the game, with at most so many nodes
pub record IsFor (game : GameNumbers) (budget : ℕ) (strategy : Strategy) : Type 0 where
  pub of_game : strategy.game ≡ game
  pub of_format : strategy.format ≡ One
  pub few : length (nodes_of strategy.nodes) ≤ budget

-- a strategy of the adversary that is legal over these sizes
abbrev AreLegalOfAdversary : Format → GameNumbers → List ℕ → Nodes → Type 0
AreLegalOfAdversary format game sizes (sides.Adversary nodes) = adversary.IsLegal format game sizes nodes
AreLegalOfAdversary format game sizes (sides.Algorithm nodes) = ⊥

abbrev pub IsLegalOfAdversaryOver : List ℕ → Strategy → Type 0
IsLegalOfAdversaryOver sizes strategy = AreLegalOfAdversary strategy.format strategy.game sizes strategy.nodes

-- a strategy of the algorithm that is legal over these sizes
abbrev AreLegalOfAlgorithm : Format → GameNumbers → List ℕ → Nodes → Type 0
AreLegalOfAlgorithm format game sizes (sides.Adversary nodes) = ⊥
AreLegalOfAlgorithm format game sizes (sides.Algorithm nodes) = algorithm.IsLegal format game sizes nodes

abbrev pub IsLegalOfAlgorithmOver : List ℕ → Strategy → Type 0
IsLegalOfAlgorithmOver sizes strategy = AreLegalOfAlgorithm strategy.format strategy.game sizes strategy.nodes

-- what a search of a space with a budget may answer: a strategy of the side that wins, which is legal over these sizes,
-- or the visit at which the budget ended
abbrev pub IsAnswerOver : SearchSpace → ℕ → Answer → Type 0
IsAnswerOver space budget (Adversary strategy) =
    IsLegalOfAdversaryOver space.sizes strategy × IsFor space.game budget strategy
IsAnswerOver space budget (Algorithm strategy) =
    IsLegalOfAlgorithmOver space.sizes strategy × IsFor space.game budget strategy
IsAnswerOver space budget (Undecided visits pass path) = (visits ≡ budget) × IsDue space budget (visit pass path)

-- what a search of a game with a budget may answer: a legal strategy of the side that wins, or the visit at which the
-- budget ended
abbrev pub IsAnswer : GameNumbers → ℕ → Answer → Type 0
IsAnswer game budget (Adversary strategy) = IsLegalOfAdversary strategy × IsFor game budget strategy
IsAnswer game budget (Algorithm strategy) = IsLegalOfAlgorithm strategy × IsFor game budget strategy
IsAnswer game budget (Undecided visits pass path) = (visits ≡ budget) × IsDue (whole_game game) budget (visit pass path)

-- one of the sides wins
abbrev pub IsDecided : Answer → Type 0
IsDecided (Adversary strategy) = Unit {0}
IsDecided (Algorithm strategy) = Unit {0}
IsDecided (Undecided visits pass path) = ⊥
