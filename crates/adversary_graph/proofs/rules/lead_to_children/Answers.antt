use Rattle.std.proofs.Common.{◌<◌, length, map, arith, refl}
use Rattle.std.proofs.lemmas.List.{get_or-map, length-map, take_all}
use Rattle.strategy_text.specs.declared.node.Placement.{Placement}
use Rattle.strategy_text.specs.declared.node.Then.TheVariants.{Over}
use Rattle.adversary_graph.proofs.RuleLemmas.{placed_load}
use Rattle.adversary_graph.proofs.rules.lead_to_children.Goals as goal

pub leads_to_child-requires-clause-placed : goal.leads_to_child-requires-clause-placed
leads_to_child-requires-clause-placed g c =
    let places = c.args.placements.now in
    let i = c.loop-placement.placement-index in
    let within : i < length (map (λ (placement : Placement). placement.load) places) = omega (arith, length-map places (λ (placement : Placement). placement.load)) in
    rw (get_or-map (λ (placement : Placement). placement.load) places i (record { load = 0; next = Over }) 0 c.loop-placement-test.true) at
    (placed_load c.args.loads.now _ i 0 c.requires.placed within)

pub returns : goal.returns
returns g c =
    record { exact = (λ _. rw (take_all c.loop-placement.placement-index c.args.placements.now (omega arith)) at c.loop-placement.invariant, λ _. refl) }
