use Rattle.reach_planes.specs.Layout.{NoBits}
use Rattle.reach_planes.proofs.planes.Planes.least_load.Given as goal

abbrev pub invariant-loop-half : goal.invariant-loop-half
invariant-loop-half l = NoBits l.rows l.half l.self-inside.words.items
