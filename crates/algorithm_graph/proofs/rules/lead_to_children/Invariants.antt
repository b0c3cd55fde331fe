use Rattle.std.proofs.Common.{take}
use Rattle.std.specs.List.{All}
use Rattle.loads.specs.Position.{position}
use Rattle.algorithm_graph.specs.Judging.{LeadsOn}
use Rattle.algorithm_graph.proofs.rules.lead_to_children.Given as goal

abbrev pub invariant-loop-entry : goal.invariant-loop-entry
invariant-loop-entry g l = All (LeadsOn (g.E.EarlierPositions.positions l.earlier) (position l.loads l.items)) (take l.entry-index l.entries)
