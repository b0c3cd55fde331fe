use Rattle.std.proofs.Common.{◌≡◌, ◌+◌, ◌^◌}
use Rattle.reach_planes.proofs.PlaneLemmas.{IsMoved}
use Rattle.reach_planes.proofs.rows.put_item.Given as goal

abbrev pub invariant-loop-place : goal.invariant-loop-place
invariant-loop-place l = record {
  stride_is : l.stride ≡ (l.game.capacity + 1) ^ l._place;
  moved : IsMoved l.game l.s l._place l.source l.initial.words l.words;
}
