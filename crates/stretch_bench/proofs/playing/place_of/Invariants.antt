use Rattle.std.proofs.Common.{◌≢◌, ◌<◌, ℕ, Some, map}
use Rattle.std.specs.Prelude.{slice_get}
use Rattle.stretch_bench.proofs.playing.place_of.Given as goal

abbrev pub invariant-loop-place : goal.invariant-loop-place
invariant-loop-place g l = (earlier : ℕ) → earlier < l.place → slice_get (map (λ player. player.name) l.players.items) earlier ≢ Some l.name
