use Rattle.std.specs.Prelude.{slice_index}
use Rattle.std.proofs.Common.{◌≡◌, ◌<◌, ◌-◌, ℕ, length}
use Rattle.reach_planes.specs.Layout.{digit_sum}
use Rattle.reach_planes.proofs.rows.digit_sums.Given as goal

abbrev pub invariant-loop-row : goal.invariant-loop-row
invariant-loop-row l = record {
  size : length l.sums.items ≡ l.row;
  exact : (row : ℕ) → row < l.row → slice_index l.sums.items row ≡ digit_sum l.base (l.game.bins - 2) row;
}
