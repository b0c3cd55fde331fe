use Rattle.std.proofs.Common.{◌≤◌, ◌∙◌, ap, length, sym, subst}
use Rattle.items.specs.Multiset.{sizes_of}
use Rattle.strategy_text.specs.Text.{nodes_of, side_of}
use Rattle.strategy_text.specs.declared.node.Nodes.{Nodes}
use Rattle.strategies.specs.AnyNode.{AreLegalNodes}
use Rattle.minimise.specs.Reached.{AreDistinct, AreReached}
use Rattle.minimise.specs.Strategies.{positions_in, references_in}
use Rattle.minimise.proofs.StrategyLemmas.{canonical-distinct, canonical-few, canonical-legal, canonical-reached, canonical-side}
use Rattle.minimise.proofs.canonical.minimise.Goals as goal

pub returns-clause-side : goal.returns-clause-side
returns-clause-side c = ap side_of c.in_ok-canonical_nodes.ensures ∙ canonical-side c.args.strategy.now.nodes

pub returns-clause-legal : goal.returns-clause-legal
returns-clause-legal c =
    let s = c.args.strategy.now in
    subst (AreLegalNodes s.format s.game (sizes_of s.game)) (sym c.in_ok-canonical_nodes.ensures) (canonical-legal s.format s.game (sizes_of s.game) s.nodes c.requires.legal)

pub returns-clause-distinct : goal.returns-clause-distinct
returns-clause-distinct c =
    let s = c.args.strategy.now in
    subst (λ (nodes : Nodes). AreDistinct (positions_in nodes)) (sym c.in_ok-canonical_nodes.ensures) (canonical-distinct s.format s.game (sizes_of s.game) s.nodes c.requires.legal)

pub returns-clause-reached : goal.returns-clause-reached
returns-clause-reached c =
    let s = c.args.strategy.now in
    subst (λ (nodes : Nodes). AreReached (references_in nodes)) (sym c.in_ok-canonical_nodes.ensures) (canonical-reached s.format s.game (sizes_of s.game) s.nodes c.requires.legal)

pub returns-clause-number : goal.returns-clause-number
returns-clause-number c =
    let s = c.args.strategy.now in
    subst (λ (nodes : Nodes). length (nodes_of nodes) ≤ length (nodes_of s.nodes)) (sym c.in_ok-canonical_nodes.ensures)
    (canonical-few s.format s.game (sizes_of s.game) s.nodes c.requires.legal)
