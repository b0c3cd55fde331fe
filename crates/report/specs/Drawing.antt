-- What the private contracts of making the drill strategy cite; nothing here has to be believed.
use Rattle.std.specs.Prelude.{◌≡◌, ℕ, List}
use Rattle.rand_core.specs.Steps.{steps_u64_high, stream_of}
use Rattle.rand_core.specs.Stream.{Stream}
use Rattle.rand_xoshiro.specs.Xoshiro256.{plus_plus}
use Rattle.report.specs.Drill.{state_after}

-- what a generator in this state answers from now on
abbrev pub answers : List ℕ → Stream
answers state = stream_of (steps_u64_high plus_plus) state

-- the generator that a number seeds has given so many words
abbrev pub HasGiven : ℕ → ℕ → List ℕ → Type 0
HasGiven number words state = answers state ≡ answers (state_after number words)
