use Rattle.std.proofs.Common.{ap, sym, ◌∙◌, ◌++◌, [], get_or}
use Rattle.std.specs.List.{cons_option}
use Rattle.strategy_text.specs.declared.node.Placement.{Placement}
use Rattle.strategy_text.specs.declared.node.Then.TheVariants.{Over}
use Rattle.adversary_graph.specs.Play.{child_of}
use Rattle.minimise.proofs.NodeLemmas.{filter_map_more}
use Rattle.minimise.proofs.adversary.children_of.Goals as goal

pub loop-placement-preserved : goal.loop-placement-preserved
loop-placement-preserved c =
    let none : Placement = record { load = 0; next = Over } in
    let here : Placement = get_or c.args.placements.now c.loop-placement.placement-index none in
    c.in_ok-push_child.ensures
    ∙ ap (λ list. list ++ cons_option (child_of here.next) []) c.loop-placement.invariant
    ∙ sym (filter_map_more (λ (placement : Placement). child_of placement.next) c.args.placements.now c.loop-placement.placement-index none c.loop-placement-test.true)
