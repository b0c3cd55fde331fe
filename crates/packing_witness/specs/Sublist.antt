use Rattle.std.specs.Prelude.{ℕ, List, [], ◌∷◌}

-- what is left of a list of items, in its order, when some of them are left out
pub data IsSublistOf : List ℕ → List ℕ → Type 0 where
  empty : IsSublistOf [] []
  kept : (item : ℕ) (part items : List ℕ) → IsSublistOf part items → IsSublistOf (item ∷ part) (item ∷ items)
  left_out : (item : ℕ) (part items : List ℕ) → IsSublistOf part items → IsSublistOf part (item ∷ items)
