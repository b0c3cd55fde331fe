-- The elements of a list with one more or several at its end, those of its first ones, and where a mapped value comes from.
use Rattle.std.proofs.Common.{◌≡◌, ℕ, zero, suc, ◌+◌, ◌<◌, List, [], ◌∷◌, ◌++◌, length, take, Option, Some, None, refl, ap, ◌∙◌, ◌⊎◌, ⊎_elim, inl, inr, arith}
use Rattle.std.specs.List.{range_with_len, slice_get}
use Rattle.std.specs.Option.{option_map}
use Rattle.std.proofs.lemmas.Option.{same_Some, none-some}

pub slice_get-push : {X : Type 0} (xs : List X) (y : X) (k : ℕ) (z : X) → slice_get (xs ++ y ∷ []) k ≡ Some z
    → (slice_get xs k ≡ Some z) ⊎ ((k ≡ length xs) × (y ≡ z))
slice_get-push [] y zero z e = inr (refl, same_Some y z e)
slice_get-push [] y (suc k) z e = absurd (none-some z e)
slice_get-push (x ∷ xs) y zero z e = inl e
slice_get-push (x ∷ xs) y (suc k) z e =
    ⊎_elim (λ here. inl here) (λ last. inr (ap suc last.0, last.1)) (slice_get-push xs y k z e)

-- an element of a list stands at its place in a longer one
pub slice_get-front : {X : Type 0} (xs more : List X) (k : ℕ) (x : X) → slice_get xs k ≡ Some x → slice_get (xs ++ more) k ≡ Some x
slice_get-front [] more k x e = absurd (none-some x e)
slice_get-front (y ∷ ys) more zero x e = e
slice_get-front (y ∷ ys) more (suc k) x e = slice_get-front ys more k x e

pub slice_get-take : {X : Type 0} (xs : List X) (k i : ℕ) (x : X) → slice_get (take k xs) i ≡ Some x → (slice_get xs i ≡ Some x) × (i < k)
slice_get-take xs zero i x e = absurd (none-some x e)
slice_get-take [] (suc k) i x e = absurd (none-some x e)
slice_get-take (y ∷ ys) (suc k) zero x e = (e, omega arith)
slice_get-take (y ∷ ys) (suc k) (suc i) x e = let h = slice_get-take ys k i x e in (h.0, omega (arith, h.1))

pub mapped : {X Y : Type 0} (f : X → Y) (o : Option X) (y : Y) → option_map f o ≡ Some y → (x : X) × (o ≡ Some x) × (f x ≡ y)
mapped f None y e = absurd (none-some y e)
mapped f (Some x) y e = (x, refl, same_Some (f x) y e)

-- a range with one more number at its end
pub range_push : (a n : ℕ) → range_with_len a (suc n) ≡ range_with_len a n ++ (a + n) ∷ []
range_push a zero = ap (λ (x : ℕ). x ∷ []) (omega arith)
range_push a (suc n) = ap (λ (xs : List ℕ). a ∷ xs) (range_push (a + 1) n ∙ ap (λ (x : ℕ). range_with_len (a + 1) n ++ x ∷ []) (omega arith))
