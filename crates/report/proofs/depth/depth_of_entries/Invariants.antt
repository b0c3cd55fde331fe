use Rattle.std.proofs.Common.{◌≡◌, map, take}
use Rattle.report.specs.Measuring.{depth_by}
use Rattle.report.specs.Ways.{goes_to}
use Rattle.report.proofs.depth.depth_of_entries.Given as goal

abbrev pub invariant-loop-entry : goal.invariant-loop-entry
invariant-loop-entry l =
    l.depth ≡ depth_by l.depths (map (λ entry. goes_to entry.to) (take l.entry-index l.entries))
