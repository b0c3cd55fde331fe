use Rattle.std.proofs.Common.{◌≡◌, drop}
use Rattle.adversary_graph.specs.Play.{next_at}
use Rattle.referee_session.proofs.stand.next_at.Given as goal

abbrev pub invariant-loop-placement : goal.invariant-loop-placement
invariant-loop-placement l = next_at l.load l.placements ≡ next_at l.load (drop l.placement-index l.placements)
