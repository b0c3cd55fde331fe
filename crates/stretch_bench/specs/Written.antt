-- What a sink has written in a call, where it tells what it has written.
use Rattle.std.specs.Prelude.{◌≡◌, ℕ, List, ◌++◌, Option, Some, None}

-- the bytes that were written begin with these
abbrev pub WritesFirst : Option (List ℕ) → Option (List ℕ) → List ℕ → Type 0
WritesFirst None new bytes = ⊥
WritesFirst (Some old) new bytes = (more : List ℕ) × (new ≡ Some (old ++ (bytes ++ more)))
