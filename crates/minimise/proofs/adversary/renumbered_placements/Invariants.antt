use Rattle.std.proofs.Common.{◌≡◌, take, map}
use Rattle.std.specs.Prelude.{slice_index}
use Rattle.minimise.specs.References.{renamed_placement}
use Rattle.minimise.proofs.adversary.renumbered_placements.Given as goal

abbrev pub invariant-loop-placement : goal.invariant-loop-placement
invariant-loop-placement l =
    l.made ≡ map (renamed_placement (slice_index l.numbers)) (take l.placement-index l.placements)
