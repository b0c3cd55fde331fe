use Rattle.std.proofs.Common.{take}
use Rattle.std.specs.List.{All}
use Rattle.loads.specs.After.{after}
use Rattle.loads.specs.Position.{position}
use Rattle.adversary_graph.specs.Rules.{LeadsTo}
use Rattle.adversary_graph.proofs.rules.lead_to_children.Given as goal

abbrev pub invariant-loop-placement : goal.invariant-loop-placement
invariant-loop-placement g l =
    All (λ placement. LeadsTo (g.E.EarlierPositions.positions l.earlier) placement.next (after (position l.loads l.items) placement.load l.size))
    (take l.placement-index l.placements)
