-- Nodes of equal positions, and the least number among them.
use Rattle.std.proofs.Common.{◌≡◌, ℕ, ◌+◌, ◌<◌, ◌≤◌, Bool, true, false, not, cond, eqb, ltb, Option, Some, None, List, [], ◌∷◌, ◌++◌, length, take}
use Rattle.std.proofs.Common.{get_or, refl, sym, ap, ◌∙◌, arith, inl, inr}
use Rattle.std.specs.Prelude.{All, position, unwrap_or}
use Rattle.std.specs.Bool.{Decides}
use Rattle.std.specs.Cmp.Lexicographic.{pointwise}
use Rattle.std.specs.List.{position_or_len}
use Rattle.std.specs.Option.{option_or}
use Rattle.std.proofs.lemmas.Bool.{eq-eqb, ne_eqb, cases_lt}
use Rattle.std.proofs.lemmas.Bool.Decides.{Decides-eqb, Decides-like, Decides-and, Decides-ltb, nat_tests, same_from_decides}
use Rattle.std.proofs.lemmas.List.{get_or-map, get_or_past, length-map, length-take-le, length_push, get_or-take, take_more}
use Rattle.std.proofs.lemmas.List.Elements.{All-map, All-nil}
use Rattle.std.proofs.lemmas.List.Folds.{position_or_len_push}
use Rattle.std.proofs.lemmas.List.Sums.{fails_before_first, passes_at_first, position_or_len_is, prefix_len-le-length}
use Rattle.std.proofs.lemmas.Option.{slice_get-get_or}
use Rattle.std.proofs.lemmas.Slice.Eq.{slice_eq-Decides}
use Rattle.loads.specs.Position.{are_equal}
use Rattle.loads.specs.Position.{position as position_of_lists}
use Rattle.loads.specs.declared.position.Position.{Position}
use Rattle.minimise.specs.Canonical.{representatives, leads}
use Rattle.minimise.specs.Nodes.{LeadBack}
use Rattle.minimise.proofs.WalkLemmas.{Falls}

-- ---- the first that passes a test

-- the first place of a list with one more at its end, by numbers alone
place_more : (n m k : ℕ) (b : Bool) → n ≤ k → m ≡ cond (eqb n k) (k + cond b 0 1) n
    → cond (ltb m (k + 1)) (Some m) None ≡ option_or (cond (ltb n k) (Some n) None) (cond b (Some k) None)
place_more n m k b le e = elim (cases_lt n k) [
  | inl before ↦
      let is : m ≡ n = e ∙ rw (ne_eqb n k (λ same. lt_not_eq n k before same)) refl in
      rw (is, (Decides-ltb n (k + 1)).1 (omega (arith, before)), (Decides-ltb n k).1 before) refl
  | inr after ↦
      let at : n ≡ k = omega (arith, le, after) in
      let no : ltb n k ≡ false = grind (arith, nat_tests) in
      rw no (last b (e ∙ rw (eq-eqb n k at) refl))
]
  where
    lt_not_eq : (x y : ℕ) → x < y → x ≡ y → ⊥
    lt_not_eq x y l h = omega arith

    last : (c : Bool) → m ≡ k + cond c 0 1 → cond (ltb m (k + 1)) (Some m) None ≡ cond c (Some k) None
    last true h = (let is : m ≡ k = omega (arith, h) in rw (is, (Decides-ltb k (k + 1)).1 (omega arith)) refl)
    last false h = (let past : ltb m (k + 1) ≡ false = grind (arith, nat_tests) in rw past refl)

module _ {X : Type 0} (p : X → Bool) where
  first-le : (xs : List X) (k : ℕ) (d : X) → p (get_or xs k d) ≡ true → position_or_len p xs ≤ k
  first-le xs k d passes = elim (cases_lt k (position_or_len p xs)) [
    | inl before ↦ (let fails = fails_before_first p xs k d before in let no : true ≡ false = sym passes ∙ fails in grind arith)
    | inr after ↦ after
  ]

  -- the first place of a list with one more at its end
  pub position_more : (xs : List X) (y : X) → position p (xs ++ y ∷ []) ≡ option_or (position p xs) (cond (p y) (Some (length xs)) None)
  position_more xs y =
      rw (length_push xs y) (
      place_more (position_or_len p xs) (position_or_len p (xs ++ y ∷ [])) (length xs) (p y) (prefix_len-le-length (λ x. not (p x)) xs) (position_or_len_push p xs y)
      )

  -- the first place that passes, by those before a place that does
  pub first_by_those_before : (xs : List X) (k : ℕ) (d : X) → k < length xs → p (get_or xs k d) ≡ true
      → position_or_len p xs ≡ unwrap_or (position p (take k xs)) k
  first_by_those_before xs k d l passes =
      let before = take k xs in
      let number : length before ≡ k = length-take-le k xs (omega (arith, l)) in
      let first = position_or_len p before in
      elim (cases_lt first (length before)) [
        | inl within ↦ rw ((Decides-ltb first (length before)).1 within) (position_or_len_is p xs first d (omega (arith, within, number, l))
            (λ j lt. sym (ap p (get_or-take k xs j d (omega (arith, lt, within, number)))) ∙ fails_before_first p before j d lt)
            (λ h. sym (ap p (get_or-take k xs first d (omega (arith, within, number)))) ∙ passes_at_first p before d within))
        | inr past ↦
            let no : ltb first (length before) ≡ false = grind (arith, nat_tests) in
            rw no (position_or_len_is p xs k d (omega (arith, l))
            (λ j lt. sym (ap p (get_or-take k xs j d lt)) ∙ fails_before_first p before j d (omega (arith, lt, past, number)))
            (λ h. passes))
      ]

  -- the first place that passes, or how many there are
  pub position_or_length : (xs : List X) → unwrap_or (position p xs) (length xs) ≡ position_or_len p xs
  position_or_length xs = elim (cases_lt (position_or_len p xs) (length xs)) [
    | inl within ↦ rw ((Decides-ltb (position_or_len p xs) (length xs)).1 within) refl
    | inr past ↦ grind (arith, nat_tests, prefix_len-le-length (λ x. not (p x)) xs)
  ]

-- ---- equal positions

pub Decides-are_equal : (one other : Position) → Decides (are_equal one other) (one ≡ other)
Decides-are_equal one other =
    Decides-like (are_equal one other)
    (λ same. (λ i. record { loads = same.0 i; items = same.1 i }))
    (λ e. (ap (λ (p : Position). p.loads) e, ap (λ (p : Position). p.items) e))
    (Decides-and (pointwise eqb one.loads other.loads) (pointwise eqb one.items other.items)
    (slice_eq-Decides Decides-eqb one.loads other.loads (pointwise eqb one.loads other.loads) refl)
    (slice_eq-Decides Decides-eqb one.items other.items (pointwise eqb one.items other.items) refl))

-- ---- representatives

-- a position that stands for none
abbrev pub no_position : Position
no_position = position_of_lists [] []

module _ (positions : List Position) where
  abbrev pub position_at : ℕ → Position
  position_at number = get_or positions number no_position

  abbrev pub representative : ℕ → ℕ
  representative number = get_or (representatives positions) number 0

  pub length-representatives : length (representatives positions) ≡ length positions
  length-representatives = length-map positions (λ (p : Position). position_or_len (are_equal p) positions)

  pub representative_is : (number : ℕ) → number < length positions → representative number ≡ position_or_len (are_equal (position_at number)) positions
  representative_is number l = get_or-map (λ (p : Position). position_or_len (are_equal p) positions) positions number no_position 0 l

  equals_itself : (number : ℕ) → are_equal (position_at number) (position_at number) ≡ true
  equals_itself number = (Decides-are_equal (position_at number) (position_at number)).1 refl

  pub representative-le : (number : ℕ) → number < length positions → representative number ≤ number
  representative-le number l =
      omega (arith, representative_is number l, first-le (are_equal (position_at number)) positions number no_position (equals_itself number))

  pub representative-lt : (number : ℕ) → number < length positions → representative number < length positions
  representative-lt number l = omega (arith, representative-le number l, l)

  -- a representative has the same position
  pub position_of_representative : (number : ℕ) → number < length positions → position_at (representative number) ≡ position_at number
  position_of_representative number l =
      let first = position_or_len (are_equal (position_at number)) positions in
      let within : first < length positions = omega (arith, representative-lt number l, representative_is number l) in
      let found = (Decides-are_equal (position_at number) (position_at first)).0 (passes_at_first (are_equal (position_at number)) positions no_position within) in
      ap position_at (representative_is number l) ∙ sym found

  -- equal positions have one representative
  pub one_representative : (number other : ℕ) → number < length positions → other < length positions → position_at number ≡ position_at other
      → representative number ≡ representative other
  one_representative number other l k e =
      representative_is number l ∙ ap (λ p. position_or_len (are_equal p) positions) e ∙ sym (representative_is other k)

  pub representative_stays : (number : ℕ) → number < length positions → representative (representative number) ≡ representative number
  representative_stays number l = one_representative (representative number) number (representative-lt number l) l (position_of_representative number l)

  -- ---- an index of the positions so far

  -- what the index gives at a node's position, or else the node's own number, is its representative
  pub representative_found : (k number found : ℕ) (here : Position) (given : Option ℕ) → k < length positions → here ≡ position_at k
      → number ≡ k → given ≡ position (are_equal here) (take k positions) → found ≡ unwrap_or given number → found ≡ representative k
  representative_found k number found here given l at is e h =
      let first = first_by_those_before (are_equal (position_at k)) positions k no_position l (equals_itself k) in
      h
      ∙ ap (λ n. unwrap_or given n) is
      ∙ ap (λ o. unwrap_or o k) (e ∙ ap (λ p. position (are_equal p) (take k positions)) at)
      ∙ sym first
      ∙ sym (representative_is k l)

  are_equal-sides : (one other : Position) → are_equal one other ≡ are_equal other one
  are_equal-sides one other =
      let d = Decides-are_equal one other in
      let e = Decides-are_equal other one in
      same_from_decides (are_equal one other) (are_equal other one) d (λ h. sym (e.0 h), λ h. e.1 (sym h))

  -- the index after one more node
  pub index_more : (k number : ℕ) (here other : Position) (before after : Option ℕ) → k < length positions → here ≡ position_at k
      → number ≡ k → before ≡ position (are_equal other) (take k positions)
      → after ≡ option_or before (cond (are_equal here other) (Some number) None)
      → after ≡ position (are_equal other) (take (k + 1) positions)
  index_more k number here other before after l at is e h =
      let count : length (take k positions) ≡ number = length-take-le k positions (omega (arith, l)) ∙ sym is in
      h
      ∙ ap (λ o. option_or o (cond (are_equal here other) (Some number) None)) e
      ∙ ap (λ b. option_or (position (are_equal other) (take k positions)) (cond b (Some number) None)) (are_equal-sides here other ∙ ap (are_equal other) at)
      ∙ ap (λ n. option_or (position (are_equal other) (take k positions)) (cond (are_equal other (position_at k)) (Some n) None)) (sym count)
      ∙ sym (position_more (are_equal other) (take k positions) (position_at k))
      ∙ ap (position (are_equal other)) (sym (take_more positions k no_position l))

-- ---- where nodes lead

pub children_below : (references : List (List ℕ)) (number : ℕ) → LeadBack references → All (λ child. child < number) (get_or references number [])
children_below references number back = elim (cases_lt number (length references)) [
  | inl within ↦ back number (get_or references number []) (slice_get-get_or references number [] within)
  | inr past ↦ rw (get_or_past references number [] past) (All-nil (λ child. child < number))
]

pub Falls-leads : (positions : List Position) (references : List (List ℕ)) → length references ≤ length positions → LeadBack references
    → Falls (leads positions references)
unfolding leads
Falls-leads positions references few back number = elim (cases_lt number (length references)) [
  | inl within ↦ All-map (λ child. child < number) (representative positions) (get_or references number [])
      (λ k d l. let below = children_below references number back k d l in
      omega (arith, below, representative-le positions (get_or (get_or references number []) k d) (omega (arith, below, within, few))))
  | inr past ↦ rw (get_or_past references number [] past) (All-nil (λ child. child < number))
]
