use Rattle.std.proofs.Common.{◌≡◌, ◌++◌, ◌∷◌, [], OnOk, subst}
use Rattle.strategy_text.specs.Text.{AnyNode, nodes_of}
use Rattle.strategies.specs.AnyNode.{side_of_node}
use Rattle.checker.specs.Progress.{any_node}
use Rattle.checker.proofs.NodeLemmas.{AreKept-push}
use Rattle.checker.proofs.keeper.NodesKeeper.keep.Goals as goal

pub returns-clause-kept : goal.returns-clause-kept
returns-clause-kept c =
    let node = any_node c.args.node.now in
    AreKept-push c.put.result c.args.self.now c.put.new.nodes (side_of_node node) node
    (subst (λ (n : AnyNode). OnOk c.put.result (nodes_of c.put.new.nodes ≡ nodes_of c.args.self.now ++ n ∷ [])) c.take.ensures.value c.put.ensures.ok) c.put.ensures.side
