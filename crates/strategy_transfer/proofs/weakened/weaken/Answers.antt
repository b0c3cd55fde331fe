use Rattle.std.proofs.Common.{rules, sym, subst}
use Rattle.items.specs.Multiset.{sizes_of}
use Rattle.strategies.specs.AnyNode.{AreLegalNodes}
use Rattle.strategy_transfer.specs.Targets.{IsWeaker}
use Rattle.strategy_transfer.specs.Weakened.{with_target}
use Rattle.strategy_transfer.proofs.StrategyLemmas.{can_weaken, weakened_nodes_are_legal}
use Rattle.strategy_transfer.proofs.weakened.weaken.Goals as goal

pub weakened_nodes-requires : goal.weakened_nodes-requires
weakened_nodes-requires c =
    let s = c.args.strategy.now in
    record { can = can_weaken s.format s.game s.nodes c.requires.legal }

pub returns-clause-legal : goal.returns-clause-legal
returns-clause-legal c =
    let s = c.args.strategy.now in
    let made = c.in_ok-weakened_nodes.field-0 in
    let moved = with_target c.args.t s.game in
    let is : IsWeaker s.game c.args.t s.nodes = search rules in
    subst (λ game. AreLegalNodes s.format game (sizes_of game) made) (sym c.with_target.ensures)
    (subst (λ nodes. AreLegalNodes s.format moved (sizes_of moved) nodes) (sym c.in_ok-weakened_nodes.ensures)
    (weakened_nodes_are_legal s.format s.game c.args.t s.nodes c.requires.legal is))
