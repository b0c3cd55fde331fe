use Rattle.std.proofs.Common.{◌≤◌, ℕ, ◌+◌}
use Rattle.std.specs.Int.{IsGcd}
use Rattle.report.proofs.lowest.common_divisor.Given as goal

abbrev pub invariant-loop-lesser : goal.invariant-loop-lesser
invariant-loop-lesser l = ((d : ℕ) → IsGcd l.greater l.lesser d → IsGcd l.fn.first l.fn.second d) × (1 ≤ l.greater + l.lesser)

abbrev pub decreases-loop-lesser : goal.decreases-loop-lesser
decreases-loop-lesser l = l.lesser
