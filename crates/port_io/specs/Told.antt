-- What a sink has written, where it tells that.
use Rattle.std.specs.Prelude.{◌≡◌, ℕ, ◌<◌, List, length, take, Option}
use Rattle.std.specs.Io.KnownBytes.{append_known}

-- the bytes told grew by a prefix of the piece that is not all of it
abbrev pub AppendsSome : Option (List ℕ) → Option (List ℕ) → List ℕ → Type 0
AppendsSome old new piece = (n : ℕ) × (n < length piece) × (new ≡ append_known old (take n piece))
