-- What is found in the entries of a cache after an entry was used or put.
use Rattle.std.proofs.Common.{◌≡◌, ℕ, suc, ◌-◌, ◌<◌, Bool, true, false, cond, Option, Some, None, IsSome, List, [], ◌∷◌, length, take, refl, sym, ap, ◌∙◌, subst, arith}
use Rattle.std.specs.Cmp.{IsEquivalence}
use Rattle.std.specs.Map.{lookup_entry, remove_entry, keys_of}
use Rattle.std.specs.List.{IsDistinct, AllByRecursion}
use Rattle.std.proofs.lemmas.Map.{NonePasses, lookup-remove_entry, none_passes_from_lookup}
use Rattle.std.specs.Option.{option_map_or}
use Rattle.std.proofs.lemmas.List.{take_all, length-take-le}
use Rattle.lru.proofs.CallerLemmas.{Contains-lookup_entry}
use Rattle.lru.specs.LruCache.{lru_cache, promoted, put_entries}
use Rattle.transposition.specs.Bounded.{found, SameEntries, Puts, PutsForOther}

module _ {K V : Type 0} (eq : K → K → Bool) (laws : IsEquivalence eq) where
  -- equal keys find the same
  pub found_alike : (p q : K) (entries : List (K × V)) → eq p q ≡ true → found eq entries p ≡ found eq entries q
  found_alike p q [] e = refl
  found_alike p q (entry ∷ entries) e =
      ap (λ b. cond b (Some entry.1) (found eq entries p)) (laws.congr p q entry.0 e) ∙ ap (λ o. cond (eq q entry.0) (Some entry.1) o) (found_alike p q entries e)

  -- the entry that a key has gives what the key finds
  found_entry : (key : K) (entries : List (K × V)) (entry : K × V) → lookup_entry (eq key) entries ≡ Some entry → found eq entries key ≡ Some entry.1
  found_entry key [] entry h = cc
  found_entry key (first ∷ entries) entry h = (elim (eq key first.0) as (λ b. cond b (Some first) (lookup_entry (eq key) entries) ≡ Some entry → cond b (Some first.1)
      (found eq entries key) ≡ Some entry.1) [
        | true ↦ λ e. let same : first ≡ entry = cc in ap (λ x. Some x.1) same
        | false ↦ λ e. found_entry key entries entry e
      ]) h

  found_nothing : (key : K) (entries : List (K × V)) → lookup_entry (eq key) entries ≡ None → found eq entries key ≡ None
  found_nothing key [] h = refl
  found_nothing key (first ∷ entries) h = (elim (eq key first.0) as (λ b. cond b (Some first) (lookup_entry (eq key) entries) ≡ None → cond b (Some first.1)
      (found eq entries key) ≡ None) [
        | true ↦ λ e. cc
        | false ↦ λ e. found_nothing key entries e
      ]) h

  -- an entry taken out and put first with a value
  first_with : (key : K) (entries : List (K × V)) (entry : K × V) (value : V) → IsDistinct eq (keys_of entries) → lookup_entry (eq key) entries ≡ Some entry
      → (other : K) → found eq ((entry.0, value) ∷ remove_entry (eq key) entries) other ≡ cond (eq key other) (Some value) (found eq entries other)
  first_with key entries entry value distinct h other =
      let same : eq key entry.0 ≡ true = (Contains-lookup_entry (eq key) entries entry h).1 in
      let told : eq other entry.0 ≡ eq key other = laws.symm other entry.0 ∙ sym (laws.congr key entry.0 other same) in
      ap (λ b. cond b (Some value) (found eq (remove_entry (eq key) entries) other)) told ∙ without (eq key other) (lookup-remove_entry laws (eq key)
      (λ x y e. laws.congr key x y e) other entries distinct)
    where
      without : (b : Bool) → found eq (remove_entry (eq key) entries) other ≡ cond b None (found eq entries other) → cond b (Some value)
          (found eq (remove_entry (eq key) entries) other) ≡ cond b (Some value) (found eq entries other)
      without true e = refl
      without false e = e

  length-remove_entry : (key : K) (entries : List (K × V)) (entry : K × V) → lookup_entry (eq key) entries ≡ Some entry
      → suc (length (remove_entry (eq key) entries)) ≡ length entries
  length-remove_entry key [] entry h = cc
  length-remove_entry key (first ∷ entries) entry h = (elim (eq key first.0) as (λ b. cond b (Some first) (lookup_entry (eq key) entries) ≡ Some entry
      → suc (length (cond b entries (first ∷ remove_entry (eq key) entries))) ≡ suc (length entries)) [
        | true ↦ λ e. refl
        | false ↦ λ e. ap suc (length-remove_entry key entries entry e)
      ]) h

  option_with : (b : Bool) (o : Option V) (value : V) → (b ≡ true → o ≡ Some value) → cond b (Some value) o ≡ o
  option_with true o value h = sym (h refl)
  option_with false o value h = refl

  promoted_same : (key : K) (entries : List (K × V)) (o : Option (K × V)) → lookup_entry (eq key) entries ≡ o → IsDistinct eq (keys_of entries)
      → SameEntries eq entries (option_map_or (λ e. e ∷ remove_entry (eq key) entries) o entries)
  promoted_same key entries None h distinct = record { values = λ other. refl; number = refl }
  promoted_same key entries (Some entry) h distinct = record {
    values = λ other. first_with key entries entry entry.1 distinct h other ∙ option_with (eq key other)
        (found eq entries other) entry.1 (λ e. sym (found_alike key other entries e) ∙ found_entry key entries entry h);
    number = length-remove_entry key entries entry h;
  }

  -- an entry that was used is still there
  pub SameEntries-promoted : (key : K) (entries : List (K × V)) → IsDistinct eq (keys_of entries) → SameEntries eq entries (promoted (eq key) entries)
  SameEntries-promoted key entries distinct = promoted_same key entries (lookup_entry (eq key) entries) refl distinct

  module _ (entries : List (K × V)) (cap : ℕ) (key : K) (value : V) where
    after_put : Option (K × V) → List (K × V)
    after_put o = option_map_or (λ e. (e.0, value) ∷ remove_entry (eq key) entries) o ((key, value) ∷ take (cap - 1) entries)

    put_present : (o : Option (K × V)) → lookup_entry (eq key) entries ≡ o → IsDistinct eq (keys_of entries) → IsSome (found eq entries key)
        → Puts eq entries (after_put o) key value 0
    unfolding after_put
    put_present None h distinct is = let none = found_nothing key entries h in let no : false ≡ true = subst IsSome none is in cc
    put_present (Some entry) h distinct is =
        record { values = λ other. first_with key entries entry value distinct h other; number = omega (arith, length-remove_entry key entries entry h) }

    -- a value is put at a key that is there
    pub put-present : IsDistinct eq (keys_of entries) → IsSome (found eq entries key) → Puts eq entries (put_entries eq (lru_cache entries cap) key value) key value 0
    unfolding after_put
    put-present distinct is = put_present (lookup_entry (eq key) entries) refl distinct is

    no_entry : (o : Option (K × V)) → lookup_entry (eq key) entries ≡ o → found eq entries key ≡ None → o ≡ None
    no_entry None h none = refl
    no_entry (Some entry) h none = let e = found_entry key entries entry h in cc

    -- a new key comes first
    put_new : found eq entries key ≡ None → put_entries eq (lru_cache entries cap) key value ≡ (key, value) ∷ take (cap - 1) entries
    put_new none = ap (λ o. option_map_or (λ e. (e.0, value) ∷ remove_entry (eq key) entries) o ((key, value) ∷ take (cap - 1) entries))
        (no_entry (lookup_entry (eq key) entries) refl none)

    first_new : (others : List (K × V)) (other : K) → found eq ((key, value) ∷ others) other ≡ cond (eq key other) (Some value) (found eq others other)
    first_new others other = ap (λ b. cond b (Some value) (found eq others other)) (laws.symm other key)

    pub put-below : length entries < cap → found eq entries key ≡ None → Puts eq entries (put_entries eq (lru_cache entries cap) key value) key value 1
    put-below below none =
        let all : take (cap - 1) entries ≡ entries = take_all (cap - 1) entries (omega (arith, below)) in
        let e : put_entries eq (lru_cache entries cap) key value ≡ (key, value) ∷ entries = put_new none ∙ ap (λ es. (key, value) ∷ es) all in
        record { values = λ other. ap (λ es. found eq es other) e ∙ first_new entries other; number = ap length e ∙ omega arith }

  none_of_keys : (test : K → Bool) (entries : List (K × V)) → AllByRecursion (λ key. test key ≡ false) (keys_of entries) → NonePasses test entries
  none_of_keys test [] h = h
  none_of_keys test (entry ∷ entries) h = (h.0, none_of_keys test entries h.1)

  -- the last key of entries
  record IsLastKey (entries : List (K × V)) (last : K) : Type 0 where
    had : IsSome (found eq entries last)
    among : (test : K → Bool) → NonePasses test entries → test last ≡ false
    values : (other : K) → found eq (take (length entries - 1) entries) other ≡ cond (eq last other) None (found eq entries other)

  same_twice : (b c : Bool) (value : V) → b ≡ c → None ≡ cond c None (cond b (Some value) None)
  same_twice true true value e = refl
  same_twice true false value e = cc
  same_twice false true value e = cc
  same_twice false false value e = refl

  pub turned : (b c : Bool) (value : V) (o : Option V) → (c ≡ true → b ≡ false) → cond b (Some value) (cond c None o) ≡ cond c None (cond b (Some value) o)
  turned true true value o apart = let no = apart refl in cc
  turned true false value o apart = refl
  turned false true value o apart = refl
  turned false false value o apart = refl

  one_later : (key : K) (entry : K × V) (entries : List (K × V)) → eq key entry.0 ≡ false → IsSome (found eq entries key) → IsSome (found eq (entry ∷ entries) key)
  one_later key entry entries apart h = subst (λ b. IsSome (cond b (Some entry.1) (found eq entries key))) (sym apart) h

  last_key : (entries : List (K × V)) → 0 < length entries → IsDistinct eq (keys_of entries) → (last : K) × IsLastKey entries last
  unfolding IsDistinct
  last_key [] l distinct = absurd (omega (arith, l))
  last_key (entry ∷ []) l distinct = (
    entry.0,
    record {
      had = subst (λ b. IsSome (cond b (Some entry.1) None)) (sym (laws.refl entry.0)) refl;
      among = λ test none. none.0;
      values = λ other. same_twice (eq other entry.0) (eq entry.0 other) entry.1 (laws.symm other entry.0);
    },
  )
  last_key (entry ∷ next ∷ entries) l distinct =
      let rest = last_key (next ∷ entries) (omega arith) distinct.1 in
      let apart : eq entry.0 rest.0 ≡ false = rest.1.among (eq entry.0) (none_of_keys (eq entry.0) (next ∷ entries) distinct.0) in
      let fewer : length (entry ∷ next ∷ entries) - 1 ≡ suc (length (next ∷ entries) - 1) = omega arith in (
        rest.0,
        record {
          had = one_later rest.0 entry (next ∷ entries) (laws.symm rest.0 entry.0 ∙ apart) rest.1.had;
          among = λ test none. rest.1.among test none.1;
          values = λ other.
              ap (λ n. found eq (take n (entry ∷ next ∷ entries)) other) fewer
              ∙ ap (λ o. cond (eq other entry.0) (Some entry.1) o) (rest.1.values other)
              ∙ turned (eq other entry.0) (eq rest.0 other) entry.1 (found eq (next ∷ entries) other) (λ e. sym (laws.congr rest.0 other entry.0 e)
              ∙ laws.symm rest.0 entry.0 ∙ apart);
        },
      )

  pub put-full : (entries : List (K × V)) (cap : ℕ) (key : K) (value : V) → IsDistinct eq (keys_of entries) → 0 < cap → length entries ≡ cap
      → found eq entries key ≡ None → (dropped : K) × PutsForOther eq entries (put_entries eq (lru_cache entries cap) key value) key value dropped
  put-full entries cap key value distinct some full none =
      let last = last_key entries (omega (arith, some, full)) distinct in
      let less : cap - 1 ≡ length entries - 1 = omega (arith, full) in
      let e : put_entries eq (lru_cache entries cap) key value ≡ (key, value) ∷ take (length entries - 1) entries = put_new entries cap key value none
      ∙ ap (λ n. (key, value) ∷ take n entries) less in (
        last.0,
        record {
          other = last.1.among (eq key) (none_passes_from_lookup (eq key) entries none);
          had = last.1.had;
          values = λ one. ap (λ es. found eq es one) e ∙ first_new entries cap key value (take (length entries - 1) entries) one ∙ ap (λ o. cond (eq key one)
              (Some value) o) (last.1.values one);
          number = ap length e ∙ ap suc (length-take-le (length entries - 1) entries (omega arith)) ∙ omega (arith, some, full);
        },
      )
