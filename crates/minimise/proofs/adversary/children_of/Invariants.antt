use Rattle.std.proofs.Common.{◌≡◌, take}
use Rattle.std.specs.List.{filter_map}
use Rattle.strategy_text.specs.declared.node.Placement.{Placement}
use Rattle.adversary_graph.specs.Play.{child_of}
use Rattle.minimise.proofs.adversary.children_of.Given as goal

abbrev pub invariant-loop-placement : goal.invariant-loop-placement
invariant-loop-placement l =
    l.children.items ≡ filter_map (λ (placement : Placement). child_of placement.next) (take l.placement-index l.placements)
