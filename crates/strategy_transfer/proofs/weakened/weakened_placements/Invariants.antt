use Rattle.std.proofs.Common.{◌≡◌, map, take}
use Rattle.std.specs.Prelude.{slice_index}
use Rattle.strategy_transfer.specs.Weakened.{weakened_placement}
use Rattle.strategy_transfer.proofs.weakened.weakened_placements.Given as goal

abbrev pub invariant-loop-placement : goal.invariant-loop-placement
invariant-loop-placement l =
    l.made ≡ map (weakened_placement l.t (slice_index l.numbers) l.size) (take l.placement-index l.placements)
