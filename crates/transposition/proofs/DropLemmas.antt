-- What is found in a table after an entry was put in and another was dropped for it.
use Rattle.std.proofs.Common.{◌≡◌, ℕ, zero, suc, ◌+◌, ◌<◌, Bool, true, false, cond, Option, Some, None, IsSome, List, [], ◌∷◌, ◌++◌, length, take}
use Rattle.std.proofs.Common.{refl, sym, ap, ◌∙◌, subst, inl, inr, arith}
use Rattle.std.specs.Prelude.{IfSome, slice_get, is_some, if◌then◌else◌}
use Rattle.std.specs.Cmp.{IsEquivalence}
use Rattle.std.specs.HashMap.{HashMap, Updates}
use Rattle.std.proofs.lemmas.List.{length-append, take-append-le, take_all}
use Rattle.std.proofs.lemmas.Option.{slice_get_cases}
use Rattle.indexmap.specs.IndexMap.{insert_entry}
use Rattle.indexmap.proofs.CallerLemmas.{insert_entry-new}
use Rattle.transposition.specs.Bounded.{found, PutsForOther}
use Rattle.transposition.specs.Clock.{Drops}
use Rattle.transposition.proofs.LookupLemmas.{found_alike, turned}

module _ {K V : Type 0} (eq : K → K → Bool) (laws : IsEquivalence eq) where
  some_either : (b : Bool) (value : V) (o : Option V) → IsSome o → IsSome (cond b (Some value) o)
  some_either true value o h = refl
  some_either false value o h = h

  -- a key finds its entry among the first ones
  found_first : (entries : List (K × V)) (first place : ℕ) (entry : K × V) → place < first → slice_get entries place ≡ Some entry
      → IsSome (found eq (take first entries) entry.0)
  found_first [] first place entry l e = cc
  found_first (one ∷ entries) zero place entry l e = absurd (omega arith)
  found_first (one ∷ entries) (suc first) zero entry l e =
      let is : one ≡ entry = cc in
      subst (λ b. IsSome (cond b (Some one.1) (found eq (take first entries) entry.0))) (sym (ap (λ (o : K × V). eq entry.0 o.0) is ∙ laws.refl entry.0)) refl
  found_first (one ∷ entries) (suc first) (suc place) entry l e =
      some_either (eq entry.0 one.0) one.1 (found eq (take first entries) entry.0) (found_first entries first place entry (omega arith) e)

module _ {K V S : Type 0} (eq : K → K → Bool) (laws : IsEquivalence eq) where
  no_entry : (old : HashMap K V S) (place : ℕ) → place < length old.entries → None ≡ slice_get old.entries place → ⊥
  no_entry old place l e = elim (slice_get_cases old.entries place).1 [
    | inl (x, within, is, same) ↦ cc
    | inr (past, none) ↦ omega (arith, l, past)
  ]

  pub one_fewer : (old new : HashMap K V S) (place : ℕ) (taken : Option (K × V)) → place < length old.entries → taken ≡ slice_get old.entries place
      → length new.entries + (if is_some taken then 1 else 0) ≡ length old.entries → length new.entries + 1 ≡ length old.entries
  one_fewer old new place None l e number = absurd (no_entry old place l e)
  one_fewer old new place (Some entry) l e number = number

  -- the entry at a place is dropped
  pub dropped_at : (old new : HashMap K V S) (first place : ℕ) (taken : Option (K × V)) → place < first → first < length old.entries → taken ≡ slice_get old.entries place
      → IfSome taken (λ entry. Updates eq old new entry.0 None) → (dropped : K) × Drops eq first old.entries new.entries dropped
  dropped_at old new first place None l m e updates = absurd (no_entry old place (omega arith) e)
  dropped_at old new first place (Some entry) l m e updates = (
    entry.0,
    record { had = found_first eq laws old.entries first place entry l (sym e); values = updates.0 },
  )

module _ {K V S : Type 0} (eq : K → K → Bool) (laws : IsEquivalence eq) (before between after : HashMap K V S) (key : K) (value : V) (dropped : K) where
  apart : (b : Bool) → eq key dropped ≡ b → found eq before.entries key ≡ None → IsSome (found eq before.entries dropped) → b ≡ false
  apart true e none had =
      let same : found eq before.entries dropped ≡ None = sym (found_alike eq laws key dropped before.entries e) ∙ none in
      let no : false ≡ true = subst IsSome same had in cc
  apart false e none had = refl

  -- a new key was put in, and one of those before it was dropped
  pub put_for_other : found eq before.entries key ≡ None → between.entries ≡ insert_entry eq before.entries key value → Updates eq before between key (Some value)
      → Drops eq (length before.entries) between.entries after.entries dropped → length after.entries + 1 ≡ length between.entries
      → PutsForOther eq before.entries after.entries key value dropped
  put_for_other none put updates drops fewer =
      let e : between.entries ≡ before.entries ++ (key, value) ∷ [] = put ∙ insert_entry-new eq before key value none in
      let front : take (length before.entries) between.entries ≡ before.entries = ap (take (length before.entries)) e
      ∙ take-append-le (length before.entries) before.entries ((key, value) ∷ []) (omega arith) ∙ take_all (length before.entries) before.entries (omega arith) in
      let had : IsSome (found eq before.entries dropped) = subst (λ es. IsSome (found eq es dropped)) front drops.had in
      let other : eq key dropped ≡ false = apart (eq key dropped) refl none had in
      record {
        other = other;
        had = had;
        values = λ one. drops.values one ∙ ap (λ o. cond (eq dropped one) None o) (updates.0 one)
            ∙ sym (turned eq laws (eq key one) (eq dropped one) value (found eq before.entries one)
            (λ e. laws.symm key one ∙ sym (laws.congr dropped one key e) ∙ laws.symm dropped key ∙ other));
        number = omega (arith, ap length e, length-append before.entries ((key, value) ∷ []));
      }
