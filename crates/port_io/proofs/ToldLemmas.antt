-- Laws of the bytes that a source or a sink may tell.
use Rattle.std.proofs.Common.{◌≡◌, ℕ, ◌+◌, ◌-◌, length, List, [], ◌++◌, take, drop, Option, None, Some, refl, ap, sym, ◌∙◌, append_assoc, length-append, arith}
use Rattle.std.proofs.lemmas.List.{append-nil, take_rest, take-append-le}
use Rattle.std.proofs.Math.Seq.{take-add, take-append-add}
use Rattle.std.specs.Io.KnownBytes.{append_known, prepend_known}
use Rattle.port_io.specs.Told.{AppendsSome}

pub append_known-nil : (known : Option (List ℕ)) → append_known known [] ≡ known
append_known-nil None = refl
append_known-nil (Some xs) = ap Some (append-nil xs)

pub append_known-append : (known : Option (List ℕ)) (a b : List ℕ) → append_known (append_known known a) b ≡ append_known known (a ++ b)
append_known-append None a b = refl
append_known-append (Some xs) a b = ap Some (append_assoc xs a b)

pub prepend_known-prepend : (a b : List ℕ) (known : Option (List ℕ)) → prepend_known a (prepend_known b known) ≡ prepend_known (a ++ b) known
prepend_known-prepend a b None = refl
prepend_known-prepend a b (Some xs) = ap Some (sym (append_assoc a b xs))

-- a piece was written up to one place, and then up to a later one
pub append_known-more : (old mid new : Option (List ℕ)) (piece : List ℕ) (done n : ℕ) → mid ≡ append_known old (take done piece)
    → new ≡ append_known mid (take n (take (length piece - done) (drop done piece))) → new ≡ append_known old (take (done + n) piece)
append_known-more old mid new piece done n first second =
    second ∙ ap (λ rest. append_known mid (take n rest)) (take_rest piece done) ∙ ap (λ known. append_known known (take n (drop done piece))) first
    ∙ append_known-append old (take done piece) (take n (drop done piece)) ∙ ap (append_known old) (sym (take-add done n piece))

-- a piece was written whole, and of the next a prefix
pub AppendsSome-then : (old mid new : Option (List ℕ)) (first next : List ℕ) → mid ≡ append_known old first → AppendsSome mid new next → AppendsSome old new (first ++ next)
AppendsSome-then old mid new first next whole some = (
  length first + some.0,
  omega (arith, some.1, length-append first next),
  some.2 ∙ ap (λ known. append_known known (take some.0 next)) whole ∙ append_known-append old first (take some.0 next)
      ∙ ap (append_known old) (sym (take-append-add first next some.0)),
)

-- a prefix of a piece is a prefix of a longer one
pub AppendsSome-longer : (old new : Option (List ℕ)) (first next : List ℕ) → AppendsSome old new first → AppendsSome old new (first ++ next)
AppendsSome-longer old new first next some = (
  some.0,
  omega (arith, some.1, length-append first next),
  some.2 ∙ ap (append_known old) (sym (take-append-le some.0 first next (omega (arith, some.1)))),
)
