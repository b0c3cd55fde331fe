use Rattle.std.proofs.Common.{◌≡◌, map, take}
use Rattle.minimax.specs.WinsWriting.{renumbered}
use Rattle.minimax.proofs.wins_writing.renumber.Given as goal

abbrev pub invariant-loop-placement : goal.invariant-loop-placement
invariant-loop-placement l = l.made ≡ map (renumbered l.numbers) (take l.placement-index l.placements)
