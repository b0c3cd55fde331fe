use Rattle.std.proofs.Common.{◌≡◌, drop}
use Rattle.adversary_graph.specs.Play.{first_child}
use Rattle.adversary_graph.proofs.plays.first_child_of.Given as goal

abbrev pub invariant-loop-placement : goal.invariant-loop-placement
invariant-loop-placement l = first_child l.placements ≡ first_child (drop l.placement-index l.placements)
