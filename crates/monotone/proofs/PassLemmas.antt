-- Which sizes passes allow.
use Rattle.std.proofs.Common.{◌↔◌, ℕ, ◌+◌, ◌-◌, ◌≤◌, Bool, true, false, ◌&&◌, eqb, leb, List, refl, arith}
use Rattle.std.specs.Prelude.{All, Contains, IsTrue}
use Rattle.std.specs.List.{list_any}
use Rattle.std.specs.Cmp.{nat_eq_equiv}
use Rattle.std.proofs.lemmas.Bool.{le-leb, leb-true, eqb-true}
use Rattle.std.proofs.lemmas.Map.Views.{Contains-from_any, list_any-from_Contains}
use Rattle.items.specs.Game.{GameNumbers}
use Rattle.items.specs.Multiset.{largest_of, IsSize}
use Rattle.items.proofs.MultisetLemmas.{largest_of-le}
use Rattle.monotone.specs.Passes.{allowed_in}

pub both_true : (a b : Bool) → IsTrue (a && b) ↔ (IsTrue a × IsTrue b)
both_true true b = (λ h. (refl, h), λ h. h.1)
both_true false b = (λ h. cc, λ h. h.0)

pub listed-Contains : (size : ℕ) (sizes : List ℕ) → IsTrue (list_any (λ one. eqb size one) sizes) → Contains sizes size
listed-Contains size sizes h = Contains-from_any {eq = eqb} eqb-true size sizes h

pub Contains-listed : (size : ℕ) (sizes : List ℕ) → Contains sizes size → IsTrue (list_any (λ one. eqb size one) sizes)
Contains-listed size sizes h = list_any-from_Contains {eq = eqb} nat_eq_equiv size sizes h

-- a pass allows exactly those of the sizes that, with its number, are at least the largest item
pub allowed_in-exact : (sizes items : List ℕ) (pass size : ℕ) → IsTrue (allowed_in sizes pass items size) ↔ (Contains sizes size × (largest_of items ≤ size + pass))
allowed_in-exact sizes items pass size =
    let both = both_true (list_any (λ one. eqb size one) sizes) (leb (largest_of items) (size + pass)) in (
      λ h. (listed-Contains size sizes (both.0 h).0, leb-true _ _ (both.0 h).1),
      λ h. both.1 (Contains-listed size sizes h.0, le-leb _ _ h.1),
    )

pub allowed_later : (sizes items : List ℕ) (pass later size : ℕ) → pass ≤ later → IsTrue (allowed_in sizes pass items size) → IsTrue (allowed_in sizes later items size)
allowed_later sizes items pass later size l h =
    let a = (allowed_in-exact sizes items pass size).0 h in
    (allowed_in-exact sizes items later size).1 (a.0, omega (arith, a.1, l))

pub allowed_last : (game : GameNumbers) (sizes items : List ℕ) (size : ℕ) → All (IsSize game.capacity) items → 1 ≤ size
    → IsTrue (allowed_in sizes (game.capacity - 1) items size) ↔ Contains sizes size
allowed_last game sizes items size h l =
    let e = allowed_in-exact sizes items (game.capacity - 1) size in
    (λ a. (e.0 a).0, λ c. e.1 (c, omega (arith, largest_of-le game.capacity items h, l)))
