-- Reading on: bytes that come from a source and follow those that are held.
use Rattle.std.specs.Prelude.{◌≡◌, ℕ, List, ◌++◌, Option}
use Rattle.std.specs.Io.KnownBytes.{prepend_known}

-- what a reader has in its buffer: the line that it gave last, and the bytes that it holds
pub record Ahead : Type 0 where
  pub text : List ℕ
  pub held : List ℕ

-- some bytes were read: they follow those held, and are gone from those left where the source tells them
abbrev pub ReadsOn : List ℕ → List ℕ → Option (List ℕ) → Option (List ℕ) → Type 0
ReadsOn held new_held left new_left =
    (bytes : List ℕ) × (new_held ≡ held ++ bytes) × (left ≡ prepend_known bytes new_left)
