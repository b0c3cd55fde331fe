-- What is made of the answer of a search, and of a check.
use Rattle.std.proofs.Common.{◌≡◌, ◌⊎◌, inl, inr, All, ℕ, ◌+◌, ◌-◌, ◌<◌, ◌≤◌, List, ap, sym, subst, ◌∙◌, refl, arith, Option}
use Rattle.checker.specs.Listed.{IsLegalOver}
use Rattle.items.specs.Game.{GameNumbers}
use Rattle.minimax.specs.Answers.{IsAnswerOver, IsDecided, IsFor, IsLegalOfAdversaryOver, IsLegalOfAlgorithmOver}
use Rattle.minimax.specs.declared.answer.Answer.{Answer}
use Rattle.minimax.specs.declared.answer.Answer.TheVariants as answers
use Rattle.monotone.specs.declared.path.Path.{Path}
use Rattle.monotone.specs.Positions.{CountsReachable}
use Rattle.minimax.specs.Settled.{IsDue}
use Rattle.monotone.specs.Passes.{allowed_in, listed_sizes}
use Rattle.monotone.specs.Visits.{Visit, visit}
use Rattle.monotone.specs.declared.path.PathMove.{PathMove}
use Rattle.strategy_text.specs.declared.node.Format.{Format}
use Rattle.strategy_text.specs.declared.node.Nodes.{Nodes}
use Rattle.strategy_text.specs.declared.node.Nodes.TheVariants as nodes
use Rattle.strategy_text.specs.declared.node.Strategy.{Strategy}
use Rattle.strategies.specs.AnyNode.{AreLegalNodes}
use Rattle.checker.specs.Accepted.{AcceptsListed}
use Rattle.checker.specs.declared.fault.AcceptedListed.{AcceptedListed}
use Rattle.items.specs.Multiset.{AreSizes, IsSize}
use Rattle.online_play.specs.Algorithm.{ForcesEvery}
use Rattle.strategy_text.specs.Text.{side_of}
use Rattle.strategy_text.specs.declared.node.Side.TheVariants.{Adversary}
use Rattle.listed_sizes.specs.Laws.{ListedForcesEvery}
use Rattle.listed_sizes.proofs.ForcedLemmas.{legal_listed_forces, listed_forces_every}
use Rattle.listed_sizes.specs.Games.{IsListedGame, ListedNumbers, listed}

-- the visit that is due in a search of listed sizes is of the last pass
pub due_in_last : (game : GameNumbers) (sizes : List ℕ) (budget pass : ℕ) (path : List PathMove) → IsDue (listed_sizes game sizes) budget (visit pass path)
    → IsDue (listed_sizes game sizes) budget (visit (game.capacity - 1) path)
due_in_last game sizes budget pass path due =
    let same : pass ≡ game.capacity - 1 = omega (arith, due.is_visit.from_first, due.is_visit.to_last) in
    subst (λ (p : ℕ). IsDue (listed_sizes game sizes) budget (visit p path)) same due

nodes_of_adversary : (format : Format) (game : GameNumbers) (sizes : List ℕ) (kept : Nodes)
    → IsLegalOfAdversaryOver sizes (record { format = format; game = game; nodes = kept }) → AreLegalNodes format game sizes kept
nodes_of_adversary format game sizes (nodes.Adversary list) h = h
nodes_of_adversary format game sizes (nodes.Algorithm list) h = absurd h

nodes_of_algorithm : (format : Format) (game : GameNumbers) (sizes : List ℕ) (kept : Nodes)
    → IsLegalOfAlgorithmOver sizes (record { format = format; game = game; nodes = kept }) → AreLegalNodes format game sizes kept
nodes_of_algorithm format game sizes (nodes.Adversary list) h = absurd h
nodes_of_algorithm format game sizes (nodes.Algorithm list) h = h

-- a strategy that was found for the game and the sizes of the numbers is legal over them
pub legal_over : (numbers : ListedNumbers) (game : GameNumbers) (sizes : List ℕ) (budget : ℕ) (strategy : Strategy) → game ≡ numbers.game → sizes ≡ numbers.sizes
    → IsListedGame numbers → AreLegalNodes strategy.format strategy.game sizes strategy.nodes → IsFor game budget strategy
    → IsLegalOver numbers.sizes strategy × IsFor numbers.game budget strategy
legal_over numbers game sizes budget strategy g z is legal found = (
  record {
    of_format = found.of_format;
    are_sizes = subst (λ (x : GameNumbers). AreSizes x.capacity numbers.sizes) (sym (found.of_game ∙ g)) is.are_sizes;
    nodes = subst (λ (xs : List ℕ). AreLegalNodes strategy.format strategy.game xs strategy.nodes) z legal;
  },
  subst (λ (x : GameNumbers). IsFor x budget strategy) g found,
)

pub adversary_found : (numbers : ListedNumbers) (game : GameNumbers) (sizes : List ℕ) (budget : ℕ) (answer : Answer) (strategy : Strategy) → game ≡ numbers.game
    → sizes ≡ numbers.sizes → IsListedGame numbers → answer ≡ answers.Adversary strategy → IsAnswerOver (listed_sizes game sizes) budget answer
    → IsLegalOver numbers.sizes strategy × IsFor numbers.game budget strategy
adversary_found numbers game sizes budget answer strategy g z is e h =
    let told = subst (IsAnswerOver (listed_sizes game sizes) budget) e h in
    legal_over numbers game sizes budget strategy g z is (nodes_of_adversary strategy.format strategy.game sizes strategy.nodes told.0) told.1

pub algorithm_found : (numbers : ListedNumbers) (game : GameNumbers) (sizes : List ℕ) (budget : ℕ) (answer : Answer) (strategy : Strategy) → game ≡ numbers.game
    → sizes ≡ numbers.sizes → IsListedGame numbers → answer ≡ answers.Algorithm strategy → IsAnswerOver (listed_sizes game sizes) budget answer
    → IsLegalOver numbers.sizes strategy × IsFor numbers.game budget strategy
algorithm_found numbers game sizes budget answer strategy g z is e h =
    let told = subst (IsAnswerOver (listed_sizes game sizes) budget) e h in
    legal_over numbers game sizes budget strategy g z is (nodes_of_algorithm strategy.format strategy.game sizes strategy.nodes told.0) told.1

-- what was said of the game and the sizes of the search
DecidesWith : ℕ → ℕ → GameNumbers → List ℕ → Answer → Type 0
DecidesWith room budget game sizes answer =
    (all : ℕ) → CountsReachable game (allowed_in sizes (game.capacity - 1)) all → all ≤ room → all ≤ budget → IsDecided answer

pub room_decides : (numbers : ListedNumbers) (game : GameNumbers) (sizes : List ℕ) (room budget visits pass : ℕ) (path : Path) (answer : Answer) → game ≡ numbers.game
    → sizes ≡ numbers.sizes → answer ≡ answers.Undecided visits pass path
    → ((all : ℕ) → CountsReachable game (allowed_in sizes (game.capacity - 1)) all → all ≤ room → all ≤ budget → IsDecided answer)
    → (all : ℕ) → CountsReachable numbers.game (allowed_in numbers.sizes (numbers.game.capacity - 1)) all → all ≤ room → all ≤ budget → ⊥
unfolding DecidesWith
room_decides numbers game sizes room budget visits pass path answer g z e h =
    subst (DecidesWith room budget numbers.game numbers.sizes) e
    (subst (λ (xs : List ℕ). DecidesWith room budget numbers.game xs answer) z (subst (λ (x : GameNumbers). DecidesWith room budget x sizes answer) g h))

-- ---- a strategy that was accepted

nodes_force : (format : Format) (game : GameNumbers) (sizes : List ℕ) (kept : Nodes) → All (IsSize game.capacity) sizes → AreLegalNodes format game sizes kept
    → side_of kept ≡ Adversary → ListedForcesEvery game sizes × ForcesEvery game
nodes_force format game sizes (nodes.Adversary list) z legal e = (legal_listed_forces format game sizes list z legal, listed_forces_every format game sizes list z legal)
nodes_force format game sizes (nodes.Algorithm list) z legal e = absurd cc

pub accepted_forces : (accepted : AcceptedListed) (sizes : List ℕ) (left new_left : Option (List ℕ)) → sizes ≡ accepted.sizes → AcceptsListed accepted left new_left
    → accepted.side ≡ Adversary → ListedForcesEvery accepted.game sizes × ForcesEvery accepted.game
accepted_forces accepted sizes left new_left e stands is =
    let strategy = stands.strategy in
    let forced = nodes_force strategy.format strategy.game accepted.sizes strategy.nodes stands.legal.are_sizes.sizes stands.legal.nodes (sym stands.side ∙ is) in
    subst (λ (game : GameNumbers). ListedForcesEvery game sizes × ForcesEvery game) (sym stands.game)
    (subst (λ (xs : List ℕ). ListedForcesEvery strategy.game xs × ForcesEvery strategy.game) (sym e) forced)
