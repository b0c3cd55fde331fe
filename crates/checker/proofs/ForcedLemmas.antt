-- A legal strategy of the adversary forces every algorithm of its game.
use Rattle.std.proofs.Common.{◌≡◌, List, ℕ, Option, sym, subst, ◌∙◌}
use Rattle.std.specs.Prelude.{Result, Ok, Err, IfOk}
use Rattle.items.specs.Game.{GameNumbers}
use Rattle.items.specs.Multiset.{sizes_of}
use Rattle.online_play.specs.Algorithm.{ForcesEvery}
use Rattle.strategy_text.specs.Text.{side_of}
use Rattle.strategy_text.specs.declared.node.Format.{Format}
use Rattle.strategy_text.specs.declared.node.Nodes.{Nodes}
use Rattle.strategy_text.specs.declared.node.Nodes.TheVariants as nodes
use Rattle.strategy_text.specs.declared.node.Side.TheVariants.{Adversary}
use Rattle.strategy_text.specs.declared.node.Strategy.{Strategy}
use Rattle.adversary_graph.proofs.WonLemmas.{legal_strategy_forces}
use Rattle.checker.specs.Accepted.{Spells, IsLoaded, Accepts}
use Rattle.strategies.specs.AnyNode.{AreLegalNodes, IsLegal}
use Rattle.checker.specs.declared.fault.Accepted.{Accepted}
use Rattle.checker.specs.declared.fault.CheckFault.{CheckFault}
use Rattle.checker.specs.declared.fault.Wanted.{Wanted}

nodes_force : (format : Format) (game : GameNumbers) (kept : Nodes) → AreLegalNodes format game (sizes_of game) kept → side_of kept ≡ Adversary → ForcesEvery game
nodes_force format game (nodes.Adversary list) legal e = legal_strategy_forces format game list legal
nodes_force format game (nodes.Algorithm list) legal e = absurd cc

pub legal_forces : (strategy : Strategy) → IsLegal strategy → side_of strategy.nodes ≡ Adversary → ForcesEvery strategy.game
legal_forces strategy legal e = nodes_force strategy.format strategy.game strategy.nodes legal e

pub accepted_forces : (wanted : Wanted) (accepted : Accepted) (left new_left : Option (List ℕ)) → Accepts wanted accepted left new_left → accepted.side ≡ Adversary
    → ForcesEvery accepted.game
accepted_forces wanted accepted left new_left stands e =
    subst ForcesEvery (sym stands.game) (legal_forces stands.strategy stands.loaded.legal (sym stands.side ∙ e))

-- a strategy that was read to the end of the input, or up to its last line
pub loaded_force : (wanted : Wanted) (result : Result Strategy CheckFault) (left new_left : Option (List ℕ))
    → IfOk result (λ strategy. IsLoaded wanted strategy left new_left) → IfOk result (λ strategy. side_of strategy.nodes ≡ Adversary → ForcesEvery strategy.game)
loaded_force wanted (Ok strategy) left new_left loaded = legal_forces strategy loaded.legal
loaded_force wanted (Err fault) left new_left loaded = tt

pub spelled_force : (wanted : Wanted) (result : Result Strategy CheckFault) (held new_held : List ℕ) (left new_left : Option (List ℕ))
    → IfOk result (λ strategy. Spells wanted strategy held new_held left new_left) → IfOk result (λ strategy. side_of strategy.nodes ≡ Adversary → ForcesEvery strategy.game)
spelled_force wanted (Ok strategy) held new_held left new_left spells = legal_forces strategy spells.legal
spelled_force wanted (Err fault) held new_held left new_left spells = tt
