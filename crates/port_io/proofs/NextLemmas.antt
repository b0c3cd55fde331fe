-- What stands next is one thing, and it is what a search found.
use Rattle.std.proofs.Common.{◌≡◌, ◌≢◌, ◌⊎◌, inl, inr, true, false, eqb, ℕ, ◌+◌, ◌<◌, ◌≤◌, List, [], ◌∷◌, ◌++◌, length, get_or, take, drop, Contains}
use Rattle.std.proofs.Common.{Option, None, Some, IfSome, IfNone, refl, ap, sym, ◌∙◌, subst, arith, append_assoc, length-append, length-take}
use Rattle.std.specs.Prelude.{Ok}
use Rattle.std.proofs.lemmas.List.{append-nil, get_or_at, get_or_append_left, get_or-take, take-append-drop, drop_more, nil_from_length}
use Rattle.std.proofs.lemmas.List.Elements.{All-contains, All-from_get_or, All-nil, All-cons, All-head, All-tail, Contains-append_left, Contains-push}
use Rattle.std.proofs.lemmas.Bool.{cases_lt}
use Rattle.std.proofs.lemmas.Bool.Decides.{eqb_tells}
use Rattle.std.specs.Io.KnownBytes.{prepend_known}
use Rattle.port_io.specs.declared.sources.Failed.{Failed}
use Rattle.port_io.specs.declared.lines.Line.{Line}
use Rattle.port_io.specs.declared.lines.Line.TheVariants.{Text, End, TooLong, Unfinished}
use Rattle.port_io.specs.declared.lines.Found.TheVariants.{Ending}
use Rattle.port_io.specs.Lines.{lf, longest_line, HasNoLf, IsLine, with_lf, StandsNext, line_given}
use Rattle.port_io.specs.Found.{NoLfBelow, EndsAt, IsFound}

-- bytes that begin with a line have an LF
pub HasNoLf-with_lf : (line rest bytes : List ℕ) → bytes ≡ with_lf line ++ rest → HasNoLf bytes → ⊥
HasNoLf-with_lf line rest bytes is none =
    All-contains (λ b. b ≢ lf) bytes lf none (subst (λ xs. Contains xs lf) (sym is) (Contains-append_left (with_lf line) rest lf (Contains-push line lf))) refl

-- the byte after a line is an LF
lf-at : (line rest : List ℕ) → get_or (with_lf line ++ rest) (length line) 0 ≡ lf
lf-at line rest = ap (λ xs. get_or xs (length line) 0) (append_assoc line (lf ∷ []) rest) ∙ get_or_at line lf rest 0 (length line) refl

length-with_lf : (line rest bytes : List ℕ) → bytes ≡ with_lf line ++ rest → 0 < length bytes
length-with_lf line rest bytes is = omega (arith, ap length is, length-append (with_lf line) rest, length-append line (lf ∷ []))

-- a whole line and more bytes than a line has, without an LF
not-too_long : (line rest front more bytes : List ℕ) → IsLine line → bytes ≡ with_lf line ++ rest → HasNoLf front → longest_line < length front → bytes ≡ front ++ more → ⊥
not-too_long line rest front more bytes fits is none long same =
    let short : length line ≤ longest_line = fits.short in
    let within : length line < length front = omega arith in
    none (length line) 0 within (sym (get_or_append_left front more 0 (length line) within) ∙ ap (λ xs. get_or xs (length line) 0) (sym same ∙ is) ∙ lf-at line rest)

long-length : (front more bytes : List ℕ) → longest_line < length front → bytes ≡ front ++ more → longest_line < length bytes
long-length front more bytes long same = omega (arith, ap length same, length-append front more)

nil-length : (bytes : List ℕ) → bytes ≡ [] → length bytes ≡ 0
nil-length bytes is = ap length is

-- a whole line, and another thing
Text-only : (other : Line) (bytes : List ℕ) → StandsNext Text bytes → StandsNext other bytes → Text ≡ other
Text-only Text bytes h k = refl
Text-only End bytes h k = absurd (omega (arith, length-with_lf h.0 h.1 bytes h.3, nil-length bytes k))
Text-only TooLong bytes h k = absurd (not-too_long h.0 h.1 k.0 k.1 bytes h.2 h.3 k.2 k.3 k.4)
Text-only Unfinished bytes h k = absurd (HasNoLf-with_lf h.0 h.1 bytes h.3 k.0.no_lf)

-- nothing, and another thing
End-only : (other : Line) (bytes : List ℕ) → StandsNext End bytes → StandsNext other bytes → End ≡ other
End-only Text bytes h k = sym (Text-only End bytes k h)
End-only End bytes h k = refl
End-only TooLong bytes h k = absurd (omega (arith, nil-length bytes h, long-length k.0 k.1 bytes k.3 k.4))
End-only Unfinished bytes h k = absurd (omega (arith, nil-length bytes h, k.1))

-- too long a line, and another thing
TooLong-only : (other : Line) (bytes : List ℕ) → StandsNext TooLong bytes → StandsNext other bytes → TooLong ≡ other
TooLong-only Text bytes h k = sym (Text-only TooLong bytes k h)
TooLong-only End bytes h k = sym (End-only TooLong bytes k h)
TooLong-only TooLong bytes h k = refl
TooLong-only Unfinished bytes h k = absurd (omega (arith, long-length h.0 h.1 bytes h.3 h.4, k.0.short))

-- one thing stands next
pub StandsNext-only : (line other : Line) (bytes : List ℕ) → StandsNext line bytes → StandsNext other bytes → line ≡ other
StandsNext-only Text other bytes h k = Text-only other bytes h k
StandsNext-only End other bytes h k = End-only other bytes h k
StandsNext-only TooLong other bytes h k = TooLong-only other bytes h k
StandsNext-only Unfinished Text bytes h k = sym (Text-only Unfinished bytes k h)
StandsNext-only Unfinished End bytes h k = sym (End-only Unfinished bytes k h)
StandsNext-only Unfinished TooLong bytes h k = sym (TooLong-only Unfinished bytes k h)
StandsNext-only Unfinished Unfinished bytes h k = refl

-- one thing stands next, where the bytes are told
pub only-told : (told : Option (List ℕ)) (line : Line) → IfSome told (StandsNext line) → IfSome told (λ bytes. (other : Line) → StandsNext other bytes → line ≡ other)
only-told None line h = tt
only-told (Some bytes) line h = λ other k. StandsNext-only line other bytes h k

-- what was found holds whatever was met before
pub IfNone-any : (met : Option Line) {P : Type 0} → P → IfNone met P
IfNone-any None h = h
IfNone-any (Some line) h = tt

-- no LF among the first bytes
pub HasNoLf-take : (n : ℕ) (bytes : List ℕ) → NoLfBelow n bytes → n ≤ length bytes → HasNoLf (take n bytes)
HasNoLf-take n bytes none within =
    All-from_get_or (λ b. b ≢ lf) (take n bytes) 0 (λ i below.
    let low : i < n = omega (arith, length-take n bytes) in
    λ at. none i low (omega arith) (sym (get_or-take n bytes i 0 low) ∙ at))

-- no LF among the bytes
pub HasNoLf-all : (bytes : List ℕ) → NoLfBelow (length bytes) bytes → HasNoLf bytes
HasNoLf-all bytes none = All-from_get_or (λ b. b ≢ lf) bytes 0 (λ i below. none i below below)

-- the line before the first LF
pub IsLine-found : (n : ℕ) (held : List ℕ) → EndsAt n held → IsLine (take n held)
IsLine-found n held found = record {
  no_lf = HasNoLf-take n held found.before (omega (arith, found.within));
  short = omega (arith, found.short, length-take n held);
}

-- the bytes are the line before the first LF, the LF and the rest
pub with_lf-found : (n : ℕ) (held : List ℕ) → EndsAt n held → held ≡ with_lf (take n held) ++ drop (n + 1) held
with_lf-found n held found =
    sym (take-append-drop n held) ∙ ap (λ xs. take n held ++ xs) (drop_more held n 0 found.within ∙ ap (λ b. b ∷ drop (n + 1) held) found.at)
    ∙ sym (append_assoc (take n held) (lf ∷ []) (drop (n + 1) held))

-- where a whole line was found, it stands next
pub Text-found : (n : ℕ) (held : List ℕ) (left : Option (List ℕ)) → EndsAt n held → IfSome (prepend_known held left) (StandsNext Text)
Text-found n held None found = tt
Text-found n held (Some rest) found = (
  take n held,
  drop (n + 1) held ++ rest,
  IsLine-found n held found,
  ap (λ xs. xs ++ rest) (with_lf-found n held found)
      ∙ append_assoc (with_lf (take n held)) (drop (n + 1) held) rest,
)

-- where an ending was found, it stands next
pub Ending-found : (ending : Line) (held : List ℕ) (left : Option (List ℕ)) → IsFound (Ending ending) held left → IfSome (prepend_known held left) (StandsNext ending)
Ending-found ending held None found = tt
Ending-found Text held (Some rest) found = absurd found
Ending-found End held (Some rest) found = ap (λ xs. held ++ xs) found.1 ∙ append-nil held ∙ nil_from_length held found.0
Ending-found TooLong held (Some rest) found = (
  take (longest_line + 1) held,
  drop (longest_line + 1) held ++ rest,
  HasNoLf-take (longest_line + 1) held found.0 (omega (arith, found.1)),
  omega (arith, found.1, length-take (longest_line + 1) held),
  ap (λ xs. xs ++ rest) (sym (take-append-drop (longest_line + 1) held)) ∙ append_assoc (take (longest_line + 1) held) (drop (longest_line + 1) held) rest,
)
Ending-found Unfinished held (Some rest) found =
    let same : held ≡ held ++ rest = sym (ap (λ xs. held ++ xs) found.3 ∙ append-nil held) in
    subst (StandsNext Unfinished) same (record { no_lf = HasNoLf-all held found.0; short = found.2 }, found.1)

-- where an ending was found, the bytes held show it
ending_shown : (ending : Line) (held : List ℕ) (left : Option (List ℕ)) → IsFound (Ending ending) held left → StandsNext ending held
ending_shown Text held left found = absurd found
ending_shown End held left found = nil_from_length held found.0
ending_shown TooLong held left found = subst (StandsNext TooLong) (append-nil held) (Ending-found TooLong held (Some []) found)
ending_shown Unfinished held left found = (record { no_lf = HasNoLf-all held found.0; short = found.2 }, found.1)

pub text_is_shown : (n : ℕ) (held : List ℕ) → EndsAt n held → StandsNext Text (with_lf (take n held) ++ drop (n + 1) held)
text_is_shown n held found = (take n held, drop (n + 1) held, IsLine-found n held found, refl)

pub ending_is_shown : (ending : Line) (held text : List ℕ) (left : Option (List ℕ)) → IsFound (Ending ending) held left
    → StandsNext ending (line_given {E = Failed} (Ok ending) text ++ held)
ending_is_shown Text held text left found = absurd found
ending_is_shown End held text left found = ending_shown End held left found
ending_is_shown TooLong held text left found = ending_shown TooLong held left found
ending_is_shown Unfinished held text left found = ending_shown Unfinished held left found

-- the bytes begin with a line and its LF, or there is no LF
abbrev HasFirst : List ℕ → Type 0
HasFirst bytes = HasNoLf bytes ⊎ ((line : List ℕ) × (rest : List ℕ) × HasNoLf line × (bytes ≡ with_lf line ++ rest))

HasFirst-cons : (b : ℕ) (bs : List ℕ) → ((eqb b lf ≡ true) × (b ≡ lf)) ⊎ ((eqb b lf ≡ false) × (b ≢ lf)) → HasFirst bs → HasFirst (b ∷ bs)
HasFirst-cons b bs (inl is) h = inr ([], bs, All-nil (λ x. x ≢ lf), ap (λ x. x ∷ bs) is.1)
HasFirst-cons b bs (inr differs) (inl none) = inl (All-cons (λ x. x ≢ lf) b bs differs.1 none)
HasFirst-cons b bs (inr differs) (inr some) = inr (b ∷ some.0, some.1, All-cons (λ x. x ≢ lf) b some.0 differs.1 some.2, ap (λ xs. b ∷ xs) some.3)

first_of_all : (bytes : List ℕ) → HasFirst bytes
first_of_all [] = inl (All-nil (λ x. x ≢ lf))
first_of_all (b ∷ bs) = HasFirst-cons b bs (eqb_tells b lf) (first_of_all bs)

stands_from : (bytes : List ℕ) → HasFirst bytes → (line : Line) × StandsNext line bytes
stands_from bytes (inl none) =
    elim (cases_lt longest_line (length bytes)) [
      | inl long ↦ (TooLong, (bytes, [], none, long, sym (append-nil bytes)))
      | inr short ↦ elim (cases_lt 0 (length bytes)) [
        | inl some ↦ (Unfinished, (record { no_lf = none; short = short }, some))
        | inr none' ↦ (End, nil_from_length bytes (omega arith))
      ]
    ]
stands_from bytes (inr first) =
    elim (cases_lt longest_line (length first.0)) [
      | inl long ↦ (TooLong, (first.0, lf ∷ first.1, first.2, long, first.3 ∙ append_assoc first.0 (lf ∷ []) first.1))
      | inr short ↦ (Text, (first.0, first.1, record { no_lf = first.2; short = short }, first.3))
    ]

-- one thing stands next in any bytes
pub stands_next : (bytes : List ℕ) → (line : Line) × StandsNext line bytes × ((other : Line) → StandsNext other bytes → line ≡ other)
stands_next bytes =
    let next = stands_from bytes (first_of_all bytes) in
    (next.0, next.1, λ other k. StandsNext-only next.0 other bytes next.1 k)

-- bytes begin with one line only
pub with_lf-only : (line other rest more : List ℕ) → HasNoLf line → HasNoLf other → with_lf line ++ rest ≡ with_lf other ++ more → (line ≡ other) × (rest ≡ more)
with_lf-only [] [] rest more h k is = (refl, (cc))
with_lf-only [] (c ∷ cs) rest more h k is =
    let head : c ≡ lf = (cc) in absurd (All-head (λ b. b ≢ lf) c cs k head)
with_lf-only (b ∷ bs) [] rest more h k is =
    let head : b ≡ lf = (cc) in absurd (All-head (λ b. b ≢ lf) b bs h head)
with_lf-only (b ∷ bs) (c ∷ cs) rest more h k is =
    let head : b ≡ c = (cc) in
    let tail : with_lf bs ++ rest ≡ with_lf cs ++ more = (cc) in
    let same = with_lf-only bs cs rest more (All-tail (λ b. b ≢ lf) b bs h) (All-tail (λ b. b ≢ lf) c cs k) tail in
    (ap (λ x. x ∷ bs) head ∙ ap (λ xs. c ∷ xs) same.0, same.1)
