-- Strategies of either side at another target.
use Rattle.std.proofs.Common.{ℕ, arith}
use Rattle.items.specs.Game.{GameNumbers, HasTarget, IsGame}
use Rattle.items.specs.Multiset.{sizes_of}
use Rattle.strategy_text.specs.declared.node.Format.{Format}
use Rattle.strategy_text.specs.declared.node.Nodes.{Nodes}
use Rattle.strategy_text.specs.declared.node.Nodes.TheVariants.{Adversary, Algorithm}
use Rattle.strategies.specs.AnyNode.{AreLegalNodes}
use Rattle.strategy_transfer.specs.Targets.{IsWeaker}
use Rattle.strategy_transfer.specs.Weakened.{weakened_nodes, with_target}
use Rattle.strategy_transfer.specs.Weakening.{CanWeakenNodes}
use Rattle.strategy_transfer.proofs.LinkLemmas.{legal_linked}
use Rattle.strategy_transfer.proofs.RaiseLemmas.{raised_is_legal}
use Rattle.strategy_transfer.proofs.WeakenLemmas.{weakened_is_legal}

pub can_weaken : (format : Format) (game : GameNumbers) (nodes : Nodes) → AreLegalNodes format game (sizes_of game) nodes → CanWeakenNodes nodes
can_weaken format game (Adversary nodes) legal = legal_linked format game nodes legal
can_weaken format game (Algorithm nodes) legal = tt

-- a game that is legal nodes'
game_of : (format : Format) (game : GameNumbers) (nodes : Nodes) → AreLegalNodes format game (sizes_of game) nodes → IsGame game
game_of format game (Adversary nodes) legal = legal.of_game
game_of format game (Algorithm nodes) legal = legal.of_game

pub has_target : (game : GameNumbers) (target : ℕ) (nodes : Nodes) → IsGame game → IsWeaker game target nodes → HasTarget game.capacity target
has_target game target (Adversary nodes) g is = record { low = is.0; high = omega (arith, is.1, g.target.high) }
has_target game target (Algorithm nodes) g is = record { low = omega (arith, is.0, g.target.low); high = is.1 }

pub weakened_nodes_are_legal : (format : Format) (game : GameNumbers) (target : ℕ) (nodes : Nodes) → AreLegalNodes format game (sizes_of game) nodes
    → IsWeaker game target nodes → AreLegalNodes format (with_target target game) (sizes_of game) (weakened_nodes game target nodes)
weakened_nodes_are_legal format game target nodes legal is = by nodes legal is
  where
    moved : (nodes : Nodes) → AreLegalNodes format game (sizes_of game) nodes → IsWeaker game target nodes → IsGame (with_target target game)
    moved nodes legal is =
        let g = game_of format game nodes legal in
        record { bins = g.bins; capacity = g.capacity; target = has_target game target nodes g is }

    by : (nodes : Nodes) → AreLegalNodes format game (sizes_of game) nodes → IsWeaker game target nodes
        → AreLegalNodes format (with_target target game) (sizes_of game) (weakened_nodes game target nodes)
    by (Adversary nodes) legal is = weakened_is_legal format game target nodes legal is.0 is.1 (moved (Adversary nodes) legal is)
    by (Algorithm nodes) legal is = raised_is_legal game target is.0 format nodes (moved (Algorithm nodes) legal is) legal
