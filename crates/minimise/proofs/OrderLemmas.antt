-- Orders of numbers whose places are at hand.
use Rattle.std.proofs.Common.{◌≡◌, ◌↔◌, ℕ, IsTrue, is_some, ◌<◌, ◌≤◌, false, cond, eqb, ltb, Option, Some, None, List, [], ◌∷◌, ◌++◌, length, map}
use Rattle.std.proofs.Common.{get_or, set, replicate, refl, sym, ap, ◌∙◌, subst, arith, inl, inr}
use Rattle.std.specs.Prelude.{All, Contains, position}
use Rattle.std.specs.List.{IsDistinct, range_with_len}
use Rattle.std.specs.Option.{option_or}
use Rattle.std.proofs.lemmas.Bool.{eq-eqb, eqb-true, ne_eqb, cases_eq, cases_lt}
use Rattle.std.proofs.lemmas.Bool.Decides.{Decides-ltb, nat_tests}
use Rattle.std.proofs.lemmas.List.{get_or-replicate, get_or-set_other, get_or-set_same, length-map, length-replicate, length-set, same_lists}
use Rattle.std.proofs.lemmas.List.Elements.{All-nil, All-push, Contains-get_or}
use Rattle.std.proofs.lemmas.List.FromFn.{get_or-map-range_with_len, length-range_with_len}
use Rattle.std.proofs.lemmas.List.Sums.{passes_at_first}
use Rattle.strategy_text.specs.Spelling.{most_nodes}
use Rattle.minimise.specs.Canonical.{place}
use Rattle.minimise.specs.Ordering.{IsOrdering, IsPlaced, ordering}
use Rattle.minimise.proofs.FirstsLemmas.{IsDistinct-firsts, firsts_new, firsts_of_distinct}
use Rattle.minimise.proofs.PlaceLemmas.{length-le_below, place-lt}
use Rattle.minimise.proofs.RepresentativeLemmas.{position_more, position_or_length}

-- the place of a number, if it has one
abbrev pub place_in : List ℕ → ℕ → Option ℕ
place_in numbers number = position (λ other. eqb other number) numbers

pub place_of_contained : (number : ℕ) (numbers : List ℕ) → Contains numbers number → place_in numbers number ≡ Some (place number numbers)
place_of_contained number numbers c = rw ((Decides-ltb (place number numbers) (length numbers)).1 (place-lt number numbers c)) refl

pub Contains-from_place : (number at : ℕ) (numbers : List ℕ) → place_in numbers number ≡ Some at → (at ≡ place number numbers) × Contains numbers number
Contains-from_place number at numbers e = elim (cases_lt (place number numbers) (length numbers)) [
  | inl within ↦
      let found = eqb-true (get_or numbers (place number numbers) 0) number (passes_at_first (λ y. eqb y number) numbers 0 within) in
      let some : place_in numbers number ≡ Some (place number numbers) = rw ((Decides-ltb (place number numbers) (length numbers)).1 within) refl in
      (grind arith, subst (Contains numbers) found (Contains-get_or numbers (place number numbers) 0 within))
  | inr past ↦
      let no : ltb (place number numbers) (length numbers) ≡ false = grind (arith, nat_tests) in
      let none : place_in numbers number ≡ None = rw no refl in
      absurd (grind arith)
]

pub no_place : (number : ℕ) (numbers : List ℕ) → (Contains numbers number → ⊥) → place_in numbers number ≡ None
no_place number numbers new = by (place_in numbers number) refl
  where
    by : (o : Option ℕ) → place_in numbers number ≡ o → place_in numbers number ≡ None
    by None e = e
    by (Some at) e = absurd (new (Contains-from_place number at numbers e).1)

pub new_from_no_place : (number : ℕ) (numbers : List ℕ) → place_in numbers number ≡ None → Contains numbers number → ⊥
new_from_no_place number numbers e c = (let some = place_of_contained number numbers c in grind arith)

pub place_or_length : (number : ℕ) (numbers : List ℕ) → place_in numbers number ≡ None → length numbers ≡ place number numbers
place_or_length number numbers e = (let h = position_or_length (λ y. eqb y number) numbers in rw e at h)

-- there are at most as many numbers as lie below the count
pub length-le_count : (numbers : List ℕ) (count : ℕ) → IsOrdering (ordering numbers count) → length numbers ≤ most_nodes
length-le_count numbers count legal = omega (arith, length-le_below numbers count legal.once legal.below, legal.few)

-- a place for each number below the count, and none taken
abbrev pub no_places : ℕ → List (Option ℕ)
no_places count = replicate count None

pub length-no_places : (count : ℕ) → length (no_places count) ≡ count
length-no_places count = length-replicate {A = Option ℕ} count None

pub IsPlaced-none : (count : ℕ) → count ≤ most_nodes → IsPlaced [] (no_places count)
unfolding IsDistinct
IsPlaced-none count few =
    let all = range_with_len 0 (length (no_places count)) in
    record {
      legal = record { once = tt; below = All-nil (λ (number : ℕ). number < length (no_places count)); few = omega (arith, few, length-no_places count) };
      each = same_lists (no_places count) (map (place_in []) all) (sym (length-map all (place_in []) ∙ length-range_with_len 0 (length (no_places count))))
          (λ k d l. get_or-replicate {A = Option ℕ} count k None d (omega (arith, l, length-no_places count))
          ∙ sym (get_or-map-range_with_len (place_in []) 0 (length (no_places count)) k k d l (omega arith)));
    }

pub place_at : (numbers : List ℕ) (places : List (Option ℕ)) (number : ℕ) (d : Option ℕ) → IsPlaced numbers places → number < length places
    → get_or places number d ≡ place_in numbers number
place_at numbers places number d h l =
    ap (λ list. get_or list number d) h.each ∙ get_or-map-range_with_len (place_in numbers) 0 (length places) number number d l (omega arith)

-- a number stands there exactly where it has a place
pub placed_exactly : (numbers : List ℕ) (places : List (Option ℕ)) (number : ℕ) (found : Option ℕ) → IsPlaced numbers places
    → number < length places → found ≡ get_or places number found → IsTrue (is_some found) ↔ Contains numbers number
placed_exactly numbers places number found h l is = by found (is ∙ place_at numbers places number found h l)
  where
    by : (o : Option ℕ) → o ≡ place_in numbers number → IsTrue (is_some o) ↔ Contains numbers number
    by None e = (λ no. cc, λ c. let new = new_from_no_place number numbers (sym e) c in absurd new)
    by (Some at) e = (λ yes. (Contains-from_place number at numbers (sym e)).1, λ c. refl)

-- the place of each number after one more came to the end
place_after : (numbers : List ℕ) (number other : ℕ) → (Contains numbers number → ⊥)
    → place_in (numbers ++ number ∷ []) other ≡ option_or (place_in numbers other) (cond (eqb number other) (Some (length numbers)) None)
place_after numbers number other new = position_more (λ y. eqb y other) numbers number

option_or-none : (o : Option ℕ) → option_or o None ≡ o
option_or-none None = refl
option_or-none (Some x) = refl

pub IsPlaced-push : (numbers : List ℕ) (places : List (Option ℕ)) (number at : ℕ) → IsPlaced numbers places → number < length places
    → (Contains numbers number → ⊥) → at ≡ length numbers → IsPlaced (numbers ++ number ∷ []) (set places number (Some at))
IsPlaced-push numbers places number at h l new is =
    let size : length (set places number (Some at)) ≡ length places = length-set places number (Some at) in
    let all = range_with_len 0 (length (set places number (Some at))) in
    record {
      legal = record {
        once = subst (IsDistinct eqb) (firsts_new numbers number new ∙ ap (λ list. list ++ number ∷ []) (firsts_of_distinct numbers h.legal.once))
            (IsDistinct-firsts (numbers ++ number ∷ []));
        below = subst (λ n. All (λ x. x < n) (numbers ++ number ∷ [])) (sym size) (All-push (λ x. x < length places) numbers number h.legal.below l);
        few = omega (arith, size, h.legal.few);
      };
      each = same_lists (set places number (Some at)) (map (place_in (numbers ++ number ∷ [])) all)
          (sym (length-map all (place_in (numbers ++ number ∷ [])) ∙ length-range_with_len 0 (length (set places number (Some at)))))
          (λ k d within. here k d (omega (arith, size, within))
          ∙ sym (get_or-map-range_with_len (place_in (numbers ++ number ∷ [])) 0 (length (set places number (Some at))) k k d within (omega arith)));
    }
  where
    here : (k : ℕ) (d : Option ℕ) → k < length places → get_or (set places number (Some at)) k d ≡ place_in (numbers ++ number ∷ []) k
    here k d within = elim (cases_eq number k) [
      | inl e ↦
          subst (λ n. get_or (set places number (Some at)) n d ≡ place_in (numbers ++ number ∷ []) n) e
          (get_or-set_same places number (Some at) d l ∙ ap Some is
          ∙ sym (place_after numbers number number new ∙ rw (no_place number numbers new, eq-eqb number number refl) refl))
      | inr n ↦
          get_or-set_other places number k (Some at) d (λ e. n (sym e))
          ∙ place_at numbers places k d h within
          ∙ sym (place_after numbers number k new ∙ rw (ne_eqb number k n) (option_or-none (place_in numbers k)))
    ]
