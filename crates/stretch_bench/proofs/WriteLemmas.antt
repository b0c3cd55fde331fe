-- What is due is written piece by piece: lines, a strategy, and another.
use Rattle.std.proofs.Common.{◌≡◌, ℕ, List, ◌++◌, Option, Result, Ok, Err, ap, ◌∙◌}
use Rattle.std.specs.Io.KnownBytes.{append_known}
use Rattle.std.specs.Result.{OnErr}
use Rattle.port_io.specs.Told.{AppendsSome}
use Rattle.port_io.proofs.ToldLemmas.{AppendsSome-then, AppendsSome-longer}

pub on_err : {X E : Type 0} (r : Result X E) {P : Type 0} → P → OnErr r P
on_err (Ok x) p = tt
on_err (Err e) p = p

-- of the first strategy a prefix was written
pub first_failed : (old mid new : Option (List ℕ)) (piece lines first second : List ℕ) → piece ≡ lines → mid ≡ append_known old piece
    → AppendsSome mid new first → AppendsSome old new (lines ++ (first ++ second))
first_failed old mid new piece lines first second same whole some =
    AppendsSome-then old mid new lines (first ++ second) (whole ∙ ap (append_known old) same) (AppendsSome-longer mid new first second some)

-- of the second strategy a prefix was written
pub second_failed : {X E : Type 0} (r : Result X E) (old mid last new : Option (List ℕ)) (piece lines first second : List ℕ) → piece ≡ lines
    → mid ≡ append_known old piece → last ≡ append_known mid first → OnErr r (AppendsSome last new second)
    → OnErr r (AppendsSome old new (lines ++ (first ++ second)))
second_failed (Ok x) old mid last new piece lines first second same whole also some = tt
second_failed (Err e) old mid last new piece lines first second same whole also some =
    AppendsSome-then old mid new lines (first ++ second) (whole ∙ ap (append_known old) same) (AppendsSome-then mid last new first second also some)
