-- How many entries a table may have.
use Rattle.std.proofs.Common.{◌≡◌, ◌<◌, Bool, true, false, ◌||◌, None, IsSome, List, [], ◌∷◌, map, length, refl, sym, ap, ◌∙◌, subst, arith, rules}
use Rattle.std.specs.Prelude.{Contains}
use Rattle.std.specs.Cmp.{IsEquivalence}
use Rattle.std.specs.Cmp.Rules.{comparing}
use Rattle.std.specs.List.{IsDistinct, AllByRecursion, list_any}
use Rattle.std.specs.Map.{lookup, keys_of}
use Rattle.std.proofs.lemmas.List.{length-map}
use Rattle.std.proofs.lemmas.Map.{NonePasses, none_passes_from_lookup}
use Rattle.std.proofs.lemmas.Map.Steps.{length-le_from_keys}
use Rattle.std.proofs.lemmas.Map.Made.{is_some-lookup}
use Rattle.std.proofs.lemmas.Map.Views.{list_any-from_Contains}
use Rattle.loads.specs.Position.{are_equal}
use Rattle.transposition.specs.Bounded.{found}
use Rattle.transposition.specs.Laws.{NewPositionsFindRoom}
use Rattle.transposition.proofs.LookupLemmas.{found_alike}

module _ {K : Type 0} (eq : K → K → Bool) (laws : IsEquivalence eq) where
  -- pairs of keys, which stand for the list of the keys
  abbrev with_itself : K → K × K
  with_itself key = (key, key)

  keys-with_itself : (keys : List K) → keys_of (map with_itself keys) ≡ keys
  keys-with_itself [] = refl
  keys-with_itself (key ∷ keys) = ap (λ ks. key ∷ ks) (keys-with_itself keys)

  -- a key of the list finds itself among its pairs
  listed_found : (keys : List K) (key : K) → Contains keys key → IsSome (lookup (eq key) (map with_itself keys))
  listed_found keys key c =
      is_some-lookup (eq key) (map with_itself keys) ∙ ap (list_any (eq key)) (keys-with_itself keys) ∙ list_any-from_Contains laws key keys c

module _ {K V : Type 0} (eq : K → K → Bool) (laws : IsEquivalence eq) where
  keys_from_none : (test : K → Bool) (entries : List (K × V)) → NonePasses test entries → AllByRecursion (λ key. test key ≡ false) (keys_of entries)
  keys_from_none test [] h = h
  keys_from_none test (entry ∷ entries) h = (h.0, keys_from_none test entries h.1)

  distinct_with : (new : K) (entries : List (K × V)) → IsDistinct eq (keys_of entries) → found eq entries new ≡ None → IsDistinct eq (new ∷ keys_of entries)
  unfolding IsDistinct
  distinct_with new entries distinct none = (keys_from_none (eq new) entries (none_passes_from_lookup (eq new) entries none), distinct)

  among : (entries : List (K × V)) (keys : List K) (new q : K) → ((key : K) → IsSome (found eq entries key) → Contains keys key) → Contains keys new → (b : Bool)
      → eq q new ≡ b → b || list_any (eq q) (keys_of entries) ≡ true → IsSome (lookup (eq q) (map (with_itself eq laws) keys))
  among entries keys new q listed is true e h =
      subst IsSome (sym (found_alike eq laws q new (map (with_itself eq laws) keys) e)) (listed_found eq laws keys new is)
  among entries keys new q listed is false e h =
      listed_found eq laws keys q (listed q (is_some-lookup (eq q) entries ∙ h))

  pub room_left : (entries : List (K × V)) (keys : List K) (new : K) → IsDistinct eq (keys_of entries) → found eq entries new ≡ None → ((key : K)
      → IsSome (found eq entries key) → Contains keys key) → Contains keys new → length entries < length keys
  room_left entries keys new distinct none listed is =
      let few = length-le_from_keys laws (new ∷ keys_of entries) (map (with_itself eq laws) keys) (distinct_with new entries distinct none)
      (λ q h. among entries keys new q listed is (eq q new) refl h) in
      omega (arith, few, length-map keys (with_itself eq laws), length-map entries (λ (e : K × V). e.0))

equal_positions : IsEquivalence are_equal
equal_positions = search (comparing, rules)

pub new_positions_find_room : NewPositionsFindRoom
new_positions_find_room entries capacity positions position valid listed is none =
    room_left are_equal equal_positions entries positions position valid.one_each none listed is
