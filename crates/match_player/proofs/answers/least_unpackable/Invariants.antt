use Rattle.std.proofs.Common.{ℕ, ◌<◌, take}
use Rattle.items.specs.Packable.{Packable}
use Rattle.match_player.proofs.answers.least_unpackable.Given as goal

abbrev pub invariant-loop-k : goal.invariant-loop-k
invariant-loop-k l = (fewer : ℕ) → fewer < l.k → Packable l.game (take fewer l.items)
