use Rattle.std.proofs.Common.{◌≡◌, map, take}
use Rattle.strategy_transfer.specs.Scaled.{scaled_placement}
use Rattle.strategy_transfer.proofs.scaled.scaled_placements.Given as goal

abbrev pub invariant-loop-placement : goal.invariant-loop-placement
invariant-loop-placement l = l.made ≡ map (scaled_placement l.c) (take l.placement-index l.placements)
