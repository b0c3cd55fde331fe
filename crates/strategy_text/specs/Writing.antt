-- What writing does to a sink and to the bytes held before it. These definitions serve private contracts alone.
use Rattle.std.specs.Prelude.{◌≡◌, ℕ, ◌≤◌, List, ◌∷◌, ◌++◌, decimal, Option, Result, Ok, Err}
use Rattle.std.specs.Io.KnownBytes.{append_known}
use Rattle.std.specs.List.{flat_map}
use Rattle.port_io.specs.Faults.{Rose}
use Rattle.strategy_text.specs.declared.spelled.Word.{Word}
use Rattle.strategy_text.specs.declared.spelled.Word.TheVariants.{Keyword, Size, Number}
use Rattle.port_io.specs.Told.{AppendsSome}

-- words of which each follows a space
abbrev pub spaced : List (List ℕ) → List ℕ
spaced words = flat_map (λ word. 32 ∷ word) words

-- the bytes of a word
abbrev pub word_of : Word → List ℕ
word_of (Keyword text) = text.now
word_of (Size n) = decimal n
word_of (Number n) = decimal n

-- what a sink tells that was written, how many of its writes failed, and the bytes that are held before it
pub record Standing : Type 0 where
  pub written : Option (List ℕ)
  pub faults : ℕ
  pub held : List ℕ

abbrev pub standing : Option (List ℕ) → ℕ → List ℕ → Standing
standing written faults held = record { written = written; faults = faults; held = held }

-- a piece was taken: some bytes went to the sink, and the others are held
pub record Took (old new : Standing) (piece : List ℕ) : Type 0 where
  pub sent : List ℕ
  pub told : new.written ≡ append_known old.written sent
  pub same : old.held ++ piece ≡ sent ++ new.held
  pub count : old.faults ≤ new.faults

-- a write failed: of what was held and the piece a prefix went to the sink
pub record Stopped (old new : Standing) (piece : List ℕ) : Type 0 where
  pub some : AppendsSome old.written new.written (old.held ++ piece)
  pub rose : Rose old.faults new.faults
  pub count : old.faults ≤ new.faults

-- what a function that writes a piece did
abbrev pub Writes : {X E : Type 0} → Result X E → Standing → Standing → List ℕ → Type 0
Writes (Ok done) old new piece = Took old new piece
Writes (Err failed) old new piece = Stopped old new piece
