-- Where the first LF stands.
use Rattle.std.proofs.Common.{◌≡◌, ℕ, ◌+◌, ◌-◌, ◌<◌, ◌≤◌, min, List, ◌++◌, Contains, length, get_or, take, drop, ap, sym, ◌∙◌, subst, arith, inl, inr, length-take, length-drop}
use Rattle.std.proofs.lemmas.List.{get_or-take, get_or-drop, get_or_append_left, get_or_default}
use Rattle.std.proofs.lemmas.Bool.{cases_lt, eq-eqb, eqb-true}
use Rattle.memchr.specs.Find.{Nowhere, NoneBefore, Passes, is_byte}
use Rattle.port_io.specs.Lines.{lf, longest_line}
use Rattle.port_io.specs.Found.{NoLfBelow, EndsAt}

-- the part of the bytes in which an LF is looked for
abbrev pub window : List ℕ → ℕ → ℕ → List ℕ
window bytes searched top = take (top - searched) (drop searched bytes)

window-at : (bytes : List ℕ) (searched top k : ℕ) → searched ≤ k → k < top → get_or (window bytes searched top) (k - searched) 0 ≡ get_or bytes k 0
window-at bytes searched top k low high =
    let place : searched + (k - searched) ≡ k = omega arith in
    get_or-take (top - searched) (drop searched bytes) (k - searched) 0 (omega arith) ∙ get_or-drop searched bytes (k - searched) 0 ∙ ap (λ i. get_or bytes i 0) place

-- no LF was found before place m of the window, nor before the window
NoLfBelow-window : (bytes : List ℕ) (searched top m : ℕ) → NoLfBelow searched bytes → searched + m ≤ top → Nowhere (Passes (is_byte 10) (window bytes searched top)) 0 m
    → NoLfBelow (searched + m) bytes
NoLfBelow-window bytes searched top m before fits none k below within is =
    elim (cases_lt k searched) [
      | inl first ↦ before k first within is
      | inr later ↦ none (k - searched) (omega arith) (omega arith) (eq-eqb (get_or (window bytes searched top) (k - searched) 0) 10
          (window-at bytes searched top k later (omega arith) ∙ is))
    ]

length-window : (bytes : List ℕ) (searched top : ℕ) → top ≤ length bytes → length (window bytes searched top) ≡ top - searched
length-window bytes searched top fits = omega (arith, length-take (top - searched) (drop searched bytes), length-drop searched bytes)

-- no LF was found in the window
pub NoLfBelow-none : (bytes : List ℕ) (searched top n : ℕ) → searched ≤ n → searched ≤ length bytes → top ≡ min (length bytes) n → NoLfBelow searched bytes
    → Nowhere (Passes (is_byte 10) (window bytes searched top)) 0 (length (window bytes searched top)) → NoLfBelow n bytes
NoLfBelow-none bytes searched top n low short is before none k below within =
    let size : length (window bytes searched top) ≡ top - searched = length-window bytes searched top (omega arith) in
    let fits : searched + length (window bytes searched top) ≤ top = omega arith in
    NoLfBelow-window bytes searched top (length (window bytes searched top)) before fits none k (omega arith) within

-- the first LF of the window was found
pub EndsAt-found : (bytes : List ℕ) (searched top m : ℕ) → searched ≤ length bytes → searched ≤ longest_line → top ≡ min (length bytes) (longest_line + 1)
    → NoLfBelow searched bytes → NoneBefore (Passes (is_byte 10) (window bytes searched top)) 0 (length (window bytes searched top)) m
    → Passes (is_byte 10) (window bytes searched top) m → EndsAt (searched + m) bytes
EndsAt-found bytes searched top m low short is before first found =
    let size : length (window bytes searched top) ≡ top - searched = length-window bytes searched top (omega arith) in
    let high : m < length (window bytes searched top) = first.high in
    let place : searched + m - searched ≡ m = omega arith in
    record {
      short = omega arith;
      within = omega arith;
      before = NoLfBelow-window bytes searched top m before (omega arith) first.before;
      at = sym (window-at bytes searched top (searched + m) (omega arith) (omega arith)) ∙ ap (λ i. get_or (window bytes searched top) i 0) place
          ∙ eqb-true (get_or (window bytes searched top) m 0) 10 found;
    }

-- what is read after the bytes leaves the first ones as they are
pub NoLfBelow-read : (n : ℕ) (held now bytes : List ℕ) → NoLfBelow n held → length held ≤ n → now ≡ held ++ bytes → NoLfBelow (length held) now
NoLfBelow-read n held now bytes before all is k below within at =
    before k (omega arith) below (sym (ap (λ xs. get_or xs k 0) is ∙ get_or_append_left held bytes 0 k below) ∙ at)

-- no LF is among bytes that have none
pub Contains-no_lf : (bytes : List ℕ) → NoLfBelow (length bytes) bytes → Contains bytes lf → ⊥
Contains-no_lf bytes none found = none found.0 found.1 found.1 (get_or_default bytes found.0 0 lf found.1 ∙ found.2)

-- where a line was held at first, the bytes that are held still have it
pub no_line-held : (first held now : List ℕ) {A : Type 0} → now ≡ held → NoLfBelow (longest_line + 1) now → length now ≤ longest_line → (Contains first lf → A × (held ≡ first))
    → Contains first lf → ⊥
no_line-held first held now is none short kept found =
    Contains-no_lf now (λ k below within. none k (omega arith) within) (subst (λ xs. Contains xs lf) (sym (is ∙ (kept found).1)) found)
