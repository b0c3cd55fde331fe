-- The loads that are put in, one of the different loads after the other.
use Rattle.std.proofs.Common.{◌≡◌, ◌↔◌, ℕ, ◌+◌, ◌<◌, ◌≤◌, List, length, get_or, sym, ap, ◌∙◌, arith, inl, inr, ◌⊎◌, ⊎_elim, Option, Some, None}
use Rattle.std.specs.Prelude.{Contains, MatchOption}
use Rattle.std.proofs.lemmas.Bool.{cases_eq}
use Rattle.std.proofs.lemmas.List.{get_or_default}
use Rattle.std.proofs.lemmas.List.Elements.{Contains-get_or}
use Rattle.loads.specs.Descending.{distinct}
use Rattle.loads.specs.Loads.{loads_after}
use Rattle.loads.proofs.DistinctLemmas.{Contains-distinct, Contains-from_distinct}
use Rattle.reachable_loads.specs.Reached.{IsAfter}

-- the loads after the item went to one of the first of the different loads
abbrev pub IsAfterEarly : ℕ → ℕ → List ℕ → List ℕ → ℕ → Type 0
IsAfterEarly capacity size after before i = (k : ℕ) × (k < i) × (get_or (distinct before) k 0 + size ≤ capacity) × (after ≡ loads_after before (get_or (distinct before) k 0) size)

pub IsAfterEarly-none : (capacity size : ℕ) (after before : List ℕ) → IsAfterEarly capacity size after before 0 → ⊥
IsAfterEarly-none capacity size after before h = omega (arith, h.1)

-- one more of the different loads, which had room for the item or had none
pub IsAfterEarly-more : (capacity size : ℕ) (after before : List ℕ) (i : ℕ) → get_or (distinct before) i 0 + size ≤ capacity → IsAfterEarly capacity size after before (i + 1)
    ↔ (IsAfterEarly capacity size after before i ⊎ (after ≡ loads_after before (get_or (distinct before) i 0) size))
IsAfterEarly-more capacity size after before i room = (
  λ h. elim (cases_eq h.0 i) [
    | inl e ↦ inr (h.3 ∙ ap (λ k. loads_after before (get_or (distinct before) k 0) size) e)
    | inr n ↦ inl (h.0, omega (arith, h.1, n), h.2, h.3)
  ],
  λ h. ⊎_elim (λ p. (p.0, omega (arith, p.1), p.2, p.3)) (λ e. (i, omega arith, room, e)) h,
)

pub IsAfterEarly-past : (capacity size : ℕ) (after before : List ℕ) (i : ℕ) → capacity < get_or (distinct before) i 0 + size → IsAfterEarly capacity size after before (i + 1)
    ↔ IsAfterEarly capacity size after before i
IsAfterEarly-past capacity size after before i full = (
  λ h. elim (cases_eq h.0 i) [
    | inl e ↦ absurd (omega (arith, h.2, full, ap {B = ℕ} (λ k. get_or (distinct before) k 0) e))
    | inr n ↦ (h.0, omega (arith, h.1, n), h.2, h.3)
  ],
  λ p. (p.0, omega (arith, p.1), p.2, p.3),
)

-- all the different loads are all the loads
pub IsAfterEarly-all : (capacity size : ℕ) (after before : List ℕ) (i : ℕ) → i ≡ length (distinct before) → IsAfterEarly capacity size after before i
    ↔ IsAfter capacity size after before
IsAfterEarly-all capacity size after before i e = (
  λ h. (get_or (distinct before) h.0 0, Contains-from_distinct _ before (Contains-get_or (distinct before) h.0 0 (omega (arith, h.1, e))), h.2, h.3),
  λ h. let c = Contains-distinct h.0 before h.1 in
      let q : get_or (distinct before) c.0 0 ≡ h.0 = get_or_default (distinct before) c.0 0 h.0 c.1 ∙ c.2 in
      (c.0, omega (arith, c.1, e), omega (arith, h.2, q), h.3 ∙ sym (ap (λ load. loads_after before load size) q)),
)

-- what was put in so far
abbrev pub HasPut : (List ℕ → Type 0) → List (List ℕ) → List (List ℕ) → Type 0
HasPut P old new = (after : List ℕ) → Contains new after ↔ (Contains old after ⊎ P after)

pub HasPut-start : (capacity size : ℕ) (before : List ℕ) (old : List (List ℕ)) → HasPut (λ after. IsAfterEarly capacity size after before 0) old old
HasPut-start capacity size before old after = (λ c. inl c, λ h. ⊎_elim (λ c. c) (λ e. absurd (IsAfterEarly-none capacity size after before e)) h)

pub HasPut-more : (capacity size : ℕ) (before : List ℕ) (i : ℕ) (old new newer : List (List ℕ)) → get_or (distinct before) i 0 + size ≤ capacity
    → HasPut (λ after. IsAfterEarly capacity size after before i) old new
    → ((after : List ℕ) → Contains newer after ↔ (Contains new after ⊎ (after ≡ loads_after before (get_or (distinct before) i 0) size)))
    → HasPut (λ after. IsAfterEarly capacity size after before (i + 1)) old newer
HasPut-more capacity size before i old new newer room h put after =
    let m = IsAfterEarly-more capacity size after before i room in (
      λ c. ⊎_elim (λ n. ⊎_elim (λ o. inl o) (λ p. inr (m.1 (inl p))) ((h after).0 n)) (λ e. inr (m.1 (inr e))) ((put after).0 c),
      λ s. (put after).1 (⊎_elim (λ o. inl ((h after).1 (inl o))) (λ p. ⊎_elim (λ q. inl ((h after).1 (inr q))) (λ e. inr e) (m.0 p)) s),
    )

pub HasPut-past : (capacity size : ℕ) (before : List ℕ) (i : ℕ) (old new : List (List ℕ)) → capacity < get_or (distinct before) i 0 + size
    → HasPut (λ after. IsAfterEarly capacity size after before i) old new → HasPut (λ after. IsAfterEarly capacity size after before (i + 1)) old new
HasPut-past capacity size before i old new full h after =
    let m = IsAfterEarly-past capacity size after before i full in (
      λ c. ⊎_elim (λ o. inl o) (λ p. inr (m.1 p)) ((h after).0 c),
      λ s. (h after).1 (⊎_elim (λ o. inl o) (λ p. inr (m.0 p)) s),
    )

pub HasPut-all : (capacity size : ℕ) (before : List ℕ) (i : ℕ) (old new : List (List ℕ)) → i ≡ length (distinct before)
    → HasPut (λ after. IsAfterEarly capacity size after before i) old new → HasPut (λ after. IsAfter capacity size after before) old new
HasPut-all capacity size before i old new e h after =
    let m = IsAfterEarly-all capacity size after before i e in (
      λ c. ⊎_elim (λ o. inl o) (λ p. inr (m.0 p)) ((h after).0 c),
      λ s. (h after).1 (⊎_elim (λ o. inl o) (λ p. inr (m.1 p)) s),
    )

-- the loads that a placement gave
pub unwrapped : (r : Option (List ℕ)) (before result : List ℕ) (load size : ℕ)
    → MatchOption r (¬ Contains before load) (λ after. Contains before load × (after ≡ loads_after before load size)) → r ≡ Some result → result ≡ loads_after before load size
unwrapped None before result load size m e = cc
unwrapped (Some after) before result load size m e = let same : after ≡ result = cc in sym same ∙ m.1
