use Rattle.std.proofs.Common.{◌≡◌, ◌↔◌, ◌<◌, ◌+◌, ℕ}
use Rattle.std.specs.Int.{bit_at}
use Rattle.reach_planes.specs.Words.{IsSet}
use Rattle.reach_planes.proofs.rows.any_of.Given as goal

abbrev pub invariant-loop-k : goal.invariant-loop-k
invariant-loop-k l = (bit : ℕ) → (bit_at l.all bit ≡ 1) ↔ ((k : ℕ) × (k < l.k) × IsSet l.words (l.from + k) bit)
