use Rattle.std.proofs.Common.{◌≡◌, map, take}
use Rattle.std.specs.Prelude.{slice_get, slice_index}
use Rattle.std.specs.List.{filter_map}
use Rattle.minimise.proofs.canonical.renumbered.Given as goal

abbrev pub invariant-loop-number : goal.invariant-loop-number
invariant-loop-number g l =
    l.made ≡ map (g.N.Node.renamed_by (slice_index l.numbers)) (filter_map (slice_get l.nodes) (take l.number-index l.number-items))
