-- Reading on, from call to call.
use Rattle.std.proofs.Common.{◌≡◌, ℕ, List, [], ◌++◌, Option, IfSome, ap, sym, subst, ◌∙◌, append_assoc}
use Rattle.std.proofs.lemmas.List.{append-nil}
use Rattle.std.specs.Io.KnownBytes.{prepend_known}
use Rattle.port_io.specs.Reading.{ReadsOn}
use Rattle.std.proofs.KnownBytes.{prepend_known-nil}
use Rattle.port_io.proofs.ToldLemmas.{prepend_known-prepend}

-- nothing was read
pub ReadsOn-none : (held : List ℕ) (left : Option (List ℕ)) → ReadsOn held held left left
ReadsOn-none held left = ([], sym (append-nil held), sym (prepend_known-nil left))

-- some bytes were read, and then more
pub ReadsOn-then : (a b c : List ℕ) (left mid new : Option (List ℕ)) → ReadsOn a b left mid → ReadsOn b c mid new → ReadsOn a c left new
ReadsOn-then a b c left mid new first second = (
  first.0 ++ second.0,
  second.1 ∙ ap (λ xs. xs ++ second.0) first.1 ∙ append_assoc a first.0 second.0,
  first.2 ∙ ap (prepend_known first.0) second.2 ∙ prepend_known-prepend first.0 second.0 new,
)

-- the bytes held and left, together, stay as they were
pub prepend_known-read : (held now : List ℕ) (left new : Option (List ℕ)) → ReadsOn held now left new → prepend_known held left ≡ prepend_known now new
prepend_known-read held now left new read =
    ap (prepend_known held) read.2 ∙ prepend_known-prepend held read.0 new ∙ ap (λ xs. prepend_known xs new) (sym read.1)

-- what holds of the bytes held and left afterwards holds of those before
pub IfSome-read : (P : List ℕ → Type 0) (first held now : List ℕ) (left new : Option (List ℕ)) → first ≡ held → ReadsOn held now left new → IfSome (prepend_known now new) P
    → IfSome (prepend_known first left) P
IfSome-read P first held now left new is read holds =
    subst (λ told. IfSome told P) (sym (ap (λ xs. prepend_known xs left) is ∙ prepend_known-read held now left new read)) holds

-- what was to come is a line, and then what is to come
pub prepend_known-given : (first held now line rest : List ℕ) (left new : Option (List ℕ)) → first ≡ held → ReadsOn held now left new → now ≡ line ++ rest
    → prepend_known first left ≡ prepend_known line (prepend_known rest new)
prepend_known-given first held now line rest left new is read split =
    ap (λ xs. prepend_known xs left) is ∙ prepend_known-read held now left new read ∙ ap (λ xs. prepend_known xs new) split ∙ sym (prepend_known-prepend line rest new)
