use Rattle.std.proofs.Common.{List, get_or, subst, sym}
use Rattle.std.specs.Prelude.{All}
use Rattle.std.proofs.lemmas.List.{take_all, take_more}
use Rattle.std.proofs.lemmas.List.Elements.{All-push}
use Rattle.strategy_text.specs.declared.node.Placement.{Placement}
use Rattle.strategy_text.specs.declared.node.Then.TheVariants.{Over}
use Rattle.minimax.specs.Reached.{LeadsBelow, LeadsToMarked}
use Rattle.minimax.proofs.ReachedLemmas.{MarksBelow-trans, all_marked}
use Rattle.minimax.proofs.reached.mark_all.Goals as goal

pub mark-requires : goal.mark-requires
mark-requires c =
    let as_many = (c.loop-placement.invariant.below _ c.requires).as_many in
    let placements : List Placement = c.args.placements.now in
    let none : Placement = record { load = 0; next = Over } in
    subst (λ n. LeadsBelow n (get_or placements c.loop-placement.placement-index none).next) (sym as_many)
    (c.requires c.loop-placement.placement-index none c.loop-placement-test.true)

pub loop-placement-preserved : goal.loop-placement-preserved
loop-placement-preserved c =
    let placements : List Placement = c.args.placements.now in
    let i = c.loop-placement.placement-index in
    let before = c.loop-placement.marks.items in
    let next = c.mark.new.marks.items in
    let within = c.loop-placement-test.true in
    let none : Placement = record { load = 0; next = Over } in
    record {
      marked = subst (All (λ placement. LeadsToMarked next placement.next)) (sym (take_more placements i none within))
          (All-push (λ placement. LeadsToMarked next placement.next) _ _
          (all_marked _ before next _ (c.mark.ensures.below _ (c.requires i none within)) c.loop-placement.invariant.marked) c.mark.ensures.marked);
      below = λ high all. MarksBelow-trans high c.args.marks.now.items before next (c.loop-placement.invariant.below high all)
          (c.mark.ensures.below high (all i none within));
    }

pub returns-clause-marked : goal.returns-clause-marked
returns-clause-marked c =
    subst (All (λ placement. LeadsToMarked c.loop-placement.marks.items placement.next))
    (take_all c.loop-placement.placement-index c.args.placements.now c.loop-placement-test.false) c.loop-placement.invariant.marked
