use Rattle.std.proofs.Common.{◌<◌, length, sym, subst}
use Rattle.std.specs.Prelude.{All}
use Rattle.std.specs.List.{filter_map}
use Rattle.strategy_text.specs.declared.node.Placement.{Placement}
use Rattle.adversary_graph.specs.Play.{child_of}
use Rattle.minimise.proofs.NodeLemmas.{filter_map_at}
use Rattle.minimise.proofs.adversary.renumbered_placements.Goals as goal

pub renumber_next-requires : goal.renumber_next-requires
renumber_next-requires c =
    record {
      known = filter_map_at (λ child. child < length c.args.numbers.now) (λ (placement : Placement). child_of placement.next)
          c.as_slice-placement-items.result.now
          c.loop-placement.placement-index _ c.loop-placement-test.true
          (subst (λ list. All (λ child. child < length c.args.numbers.now) (filter_map (λ (placement : Placement). child_of placement.next) list))
          (sym c.as_slice-placement-items.ensures.value) c.requires);
    }
