use Rattle.std.proofs.Common.{ℕ, ◌<◌}
use Rattle.good_situations.specs.BigFinish.{BigFinishes}
use Rattle.good_situations.proofs.big_finish.big_bound.Given as goal

abbrev pub invariant-loop-b : goal.invariant-loop-b
invariant-loop-b l = (fewer : ℕ) → fewer < l.b → BigFinishes l.game l.loads l.items fewer → ⊥
