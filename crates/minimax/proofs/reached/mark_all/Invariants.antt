use Rattle.std.proofs.Common.{ℕ, take}
use Rattle.std.specs.Prelude.{All}
use Rattle.minimax.specs.Reached.{LeadsBelow, LeadsToMarked, MarksBelow}
use Rattle.minimax.proofs.reached.mark_all.Given as goal

abbrev pub invariant-loop-placement : goal.invariant-loop-placement
invariant-loop-placement l = record {
  marked : All (λ placement. LeadsToMarked l.marks.items placement.next) (take l.placement-index l.placements);
  below : (high : ℕ) → All (λ placement. LeadsBelow high placement.next) l.placements → MarksBelow high l.fn.marks.items l.marks.items;
}
