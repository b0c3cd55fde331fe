use Rattle.std.proofs.Common.{◌≡◌, ◌≤◌, List, length, map}
use Rattle.strategy_text.specs.Text.{AnyNode, node_lines}
use Rattle.strategies.specs.AnyNode.{position_of, side_of_node}
use Rattle.checker.specs.Progress.{ReadsLines, AreJudged, any_node, told_by}
use Rattle.checker.proofs.reading.read_nodes.Given as goal

abbrev pub invariant-loop-k : goal.invariant-loop-k
invariant-loop-k g l =
    let left = g.S.Source.left in
    ((nodes : List AnyNode) × (length nodes ≡ l.k) × (l.positions ≡ map position_of nodes) × AreJudged (told_by l.head) nodes
    × ReadsLines (node_lines 0 nodes) l.initial.lines l.lines (left l.initial.source) (left l.source) × g.K.Keeper.holds l.kept l.head.side nodes)
    × (side_of_node (any_node l.node) ≡ l.head.side) × (g.S.Source.faults l.initial.source ≤ g.S.Source.faults l.source)
