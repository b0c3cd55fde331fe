-- What is due of a search for the adversary's side.
use Rattle.std.proofs.Common.{◌≡◌, ◌≤◌, ◌<◌, ◌-◌, ℕ, List, decimal, ap, arith, subst, sym, ◌∙◌}
use Rattle.std.proofs.lemmas.Fmt.{decimal_injective}
use Rattle.adversary_graph.specs.Pools.{AreLegal}
use Rattle.checker.proofs.ForcedLemmas.{legal_forces}
use Rattle.forcing.specs.Forced.{IsForced, IsSought}
use Rattle.forcing.specs.declared.forced.Forced.{Forced}
use Rattle.forcing.specs.declared.forced.Forced.TheVariants as answers
use Rattle.items.specs.Game.{GameNumbers, IsGame}
use Rattle.minimise.specs.Strategies.{canonical_form}
use Rattle.online_play.specs.Algorithm.{ForcesEvery}
use Rattle.strategies.specs.AnyNode.{IsLegal}
use Rattle.strategy_text.specs.Text.{side_of, text_of}
use Rattle.strategy_text.specs.declared.node.Side.TheVariants.{Adversary}
use Rattle.strategy_text.specs.declared.node.Strategy.{Strategy}
use Rattle.stretch_bench.specs.Force.{IsForcing, IsNotFound, not_found_line}
use Rattle.stretch_bench.specs.Pieces.{IsDueWith}
use Rattle.stretch_bench.specs.declared.due.Due.{Due}
use Rattle.stretch_bench.specs.declared.status.Status.TheVariants.{Done, NotFound}
use Rattle.stretch_bench.proofs.LegalLemmas.{adversary_legal_too, canonical_alike, canonical_is}
use Rattle.stretch_bench.proofs.OutcomeLemmas.{due_is}
use Rattle.stretch_bench.proofs.ValueLemmas.{adversary_side}

-- a pass of a game is one of the game that was read, where one word tells both capacities
pub pass_within : (word : List ℕ) (read game : GameNumbers) (capacity most pass : ℕ) → word ≡ decimal read.capacity → word ≡ decimal game.capacity
    → IsGame read → IsGame game → capacity ≡ read.capacity → most ≡ capacity → pass < game.capacity → pass ≤ most - 1
pass_within word read game capacity most pass told spelled of other is same below =
    let both = decimal_injective read.capacity game.capacity (omega (arith, of.capacity.high)) (omega (arith, other.capacity.high)) (sym told ∙ spelled) in
    omega (arith, both, is, same, below)

-- a strategy that was sought is legal
pub sought_legal : (game : GameNumbers) (strategy : Strategy) → IsSought game strategy → IsLegal strategy
sought_legal game strategy sought = adversary_legal_too strategy sought.legal

-- the canonical form of a strategy that was sought
pub sought_due : (game : GameNumbers) (strategy made : Strategy) (due : Due) → IsSought game strategy → made ≡ canonical_form strategy
    → IsDueWith Done (λ text. text ≡ text_of made) due → IsDueWith Done (IsForcing game) due
sought_due game strategy made due sought is with =
    let legal = sought_legal game strategy sought in
    let side = adversary_side strategy.format strategy.game strategy.nodes sought.legal in
    due_is Done (IsForcing game) (text_of made) due
    (record {
      strategy = canonical_form strategy;
      canonical = canonical_is strategy legal;
      of_side = (canonical_alike strategy).side ∙ side;
      of_game = sought.of_game;
      of_format = sought.of_format;
      forces = subst ForcesEvery sought.of_game (legal_forces strategy legal side);
      spelled = ap text_of is;
    })
    with

-- the line where none was found
pub not_found_due : (game : GameNumbers) (budget visits : ℕ) (answer : Forced) (line : List ℕ) (due : Due) → answer ≡ answers.NotFound visits
    → IsForced game budget answer → line ≡ not_found_line game visits → IsDueWith NotFound (λ text. text ≡ line) due
    → IsDueWith NotFound (IsNotFound game budget) due
not_found_due game budget visits answer line due e is told with =
    due_is NotFound (IsNotFound game budget) line due
    (record { visits = visits; within = subst (IsForced game budget) e is; line = told })
    with
