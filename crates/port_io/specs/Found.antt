-- What a search for the next line comes to, over the bytes held then.
use Rattle.std.specs.Prelude.{◌≡◌, ◌≢◌, ℕ, ◌+◌, ◌<◌, ◌≤◌, List, length, slice_index, Option}
use Rattle.std.specs.Io.KnownBytes.{IsAtEnd}
use Rattle.port_io.specs.declared.lines.Line.TheVariants.{Text, End, TooLong, Unfinished}
use Rattle.port_io.specs.declared.lines.Found.{Found}
use Rattle.port_io.specs.declared.lines.Found.TheVariants.{Whole, Ending}
use Rattle.port_io.specs.Lines.{lf, longest_line}

-- no LF stands among the first n bytes
abbrev pub NoLfBelow : ℕ → List ℕ → Type 0
NoLfBelow n bytes = (k : ℕ) → k < n → k < length bytes → slice_index bytes k ≢ lf

-- the first LF stands after n bytes, which are few enough for a line
pub record EndsAt (n : ℕ) (bytes : List ℕ) : Type 0 where
  pub short : n ≤ longest_line
  pub within : n < length bytes
  pub before : NoLfBelow n bytes
  pub at : slice_index bytes n ≡ lf

-- a whole line is held, or too many bytes without an LF are, or none or some are at the end of the input
abbrev pub IsFound : Found → List ℕ → Option (List ℕ) → Type 0
IsFound (Whole n) held left = EndsAt n held
IsFound (Ending Text) held left = ⊥
IsFound (Ending End) held left = (length held ≡ 0) × IsAtEnd left
IsFound (Ending TooLong) held left = NoLfBelow (longest_line + 1) held × (longest_line < length held)
IsFound (Ending Unfinished) held left =
    NoLfBelow (length held) held × (0 < length held) × (length held ≤ longest_line) × IsAtEnd left
