use Rattle.std.proofs.Common.{take}
use Rattle.std.specs.List.{All}
use Rattle.algorithm_graph.specs.Rules.{NamesLoad}
use Rattle.algorithm_graph.proofs.rules.name_loads.Given as goal

abbrev pub invariant-loop-entry : goal.invariant-loop-entry
invariant-loop-entry l = All (NamesLoad l.game l.loads) (take l.entry-index l.entries)
