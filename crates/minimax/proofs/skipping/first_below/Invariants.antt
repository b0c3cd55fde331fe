use Rattle.std.proofs.Common.{ℕ, ◌+◌, ◌<◌, ◌≤◌, get_or}
use Rattle.minimax.proofs.skipping.first_below.Given as goal

abbrev pub invariant-loop-load : goal.invariant-loop-load
invariant-loop-load l = (k : ℕ) → k < l.load-index → l.space.game.target ≤ get_or l.position.loads k 0 + l.size
