-- Slots of positions: how one more is put after them, and that the bytes of the others stay.
use Rattle.std.proofs.Common.{◌≡◌, ℕ, ◌+◌, ◌-◌, ◌<◌, ◌≤◌, List, [], ◌∷◌, ◌++◌, All, Some, length, take, drop, refl, sym, ap, ◌∙◌, subst, arith}
use Rattle.std.specs.Prelude.{slice_get, slice_range}
use Rattle.std.specs.Option.{option_map}
use Rattle.std.proofs.lemmas.List.{length-map, length-take, map_push, drop-take, drop_at, take-take, take_all, take_at}
use Rattle.std.proofs.lemmas.List.Elements.{All-get_or, All-head, All-tail, All-push, All-weaker}
use Rattle.std.proofs.lemmas.Option.{slice_get-map, get_or_from_slice_get}
use Rattle.loads.specs.Packed.{ArePositionBytes, position_in}
use Rattle.loads.specs.Slots.{bytes_in, IsWithin, IsKept, positions_in}
use Rattle.loads.specs.declared.packed_list.Slot.{Slot}
use Rattle.loads.specs.declared.packed_list.Slot.TheVariants.{Short, Long}

pub length-positions : (others : List ℕ) (slots : List Slot) → length (positions_in others slots) ≡ length slots
length-positions others slots = length-map slots (λ slot. position_in (bytes_in others slot))

-- a range below a place is one of what stands up to it
slice_range-take : (xs : List ℕ) (n start end : ℕ) → start ≤ end → end ≤ n → slice_range xs start end ≡ slice_range (take n xs) start end
slice_range-take xs n start end l within =
    let split : take n xs ≡ take (start + (n - start)) xs = ap (λ k. take k xs) (omega (arith, l, within)) in
    let rest : drop start (take n xs) ≡ take (n - start) (drop start xs) = ap (drop start) split ∙ drop-take start (n - start) xs in
    sym (ap (take (end - start)) rest ∙ take-take (end - start) (n - start) (drop start xs) (omega (arith, l, within)))

-- the bytes of a slot stay where those up to a place stay
bytes_in-same : (xs ys : List ℕ) (n : ℕ) (slot : Slot) → IsWithin n slot → take n xs ≡ take n ys → bytes_in xs slot ≡ bytes_in ys slot
bytes_in-same xs ys n (Short count bytes) w e = refl
bytes_in-same xs ys n (Long start end) w e =
    slice_range-take xs n start end w.0 w.1 ∙ ap (λ zs. slice_range zs start end) e ∙ sym (slice_range-take ys n start end w.0 w.1)

IsWithin-more : (n m : ℕ) (slot : Slot) → IsWithin n slot → n ≤ m → IsWithin m slot
IsWithin-more n m (Short count bytes) w l = w
IsWithin-more n m (Long start end) w l = (w.0, omega (arith, w.1, l))

-- what is kept stays so where bytes are put at the end
bytes_in-more : (xs ys : List ℕ) (slot : Slot) → IsKept xs slot → take (length xs) ys ≡ xs → bytes_in ys slot ≡ bytes_in xs slot
bytes_in-more xs ys slot k e = bytes_in-same ys xs (length xs) slot k.within (e ∙ sym (take_all (length xs) xs (omega arith)))

longer : (xs ys : List ℕ) → take (length xs) ys ≡ xs → length xs ≤ length ys
longer xs ys e = omega (arith, ap length e, length-take (length xs) ys)

IsKept-more : (xs ys : List ℕ) (slot : Slot) → take (length xs) ys ≡ xs → IsKept xs slot → IsKept ys slot
IsKept-more xs ys slot e k = record {
  within = IsWithin-more (length xs) (length ys) slot k.within (longer xs ys e);
  legal = subst ArePositionBytes (sym (bytes_in-more xs ys slot k e)) k.legal;
}

positions_in-more : (xs ys : List ℕ) (slots : List Slot) → take (length xs) ys ≡ xs → All (IsKept xs) slots → positions_in ys slots ≡ positions_in xs slots
positions_in-more xs ys [] e all = refl
positions_in-more xs ys (slot ∷ slots) e all =
    let first : position_in (bytes_in ys slot) ≡ position_in (bytes_in xs slot) = ap position_in (bytes_in-more xs ys slot (All-head (IsKept xs) slot slots all) e) in
    ap (λ position. position ∷ positions_in ys slots) first
    ∙ ap (λ positions. position_in (bytes_in xs slot) ∷ positions) (positions_in-more xs ys slots e (All-tail (IsKept xs) slot slots all))

-- bytes that were put at the end, and of which those from there on are in a slot now
pub IsInSlot-put : (xs more full ys : List ℕ) (start : ℕ) (slot : Slot) → full ≡ xs ++ more → start ≡ length xs → bytes_in ys slot ≡ drop start full
    → take start ys ≡ take start full → (bytes_in ys slot ≡ more) × (take (length xs) ys ≡ xs)
IsInSlot-put xs more full ys start slot e s kept others =
    let here : length xs ≡ start = sym s in (
      kept ∙ ap (drop start) e ∙ drop_at xs more start here,
      ap (λ n. take n ys) here ∙ others ∙ ap (take start) e ∙ take_at xs more start here,
    )

-- one more slot
pub AreKept-push : (xs ys more : List ℕ) (slots : List Slot) (slot : Slot) → All (IsKept xs) slots → take (length xs) ys ≡ xs → bytes_in ys slot ≡ more
    → IsWithin (length ys) slot → ArePositionBytes more → All (IsKept ys) (slots ++ slot ∷ [])
AreKept-push xs ys more slots slot all e is w legal =
    All-push (IsKept ys) slots slot (All-weaker (IsKept xs) (IsKept ys) (λ x k. IsKept-more xs ys x e k) slots all)
    (record { within = w; legal = subst ArePositionBytes (sym is) legal })

pub positions_in-push : (xs ys more : List ℕ) (slots : List Slot) (slot : Slot) → All (IsKept xs) slots → take (length xs) ys ≡ xs → bytes_in ys slot ≡ more
    → positions_in ys (slots ++ slot ∷ []) ≡ positions_in xs slots ++ position_in more ∷ []
positions_in-push xs ys more slots slot all e is =
    map_push (λ s. position_in (bytes_in ys s)) slots slot
    ∙ ap (λ positions. positions ++ position_in (bytes_in ys slot) ∷ []) (positions_in-more xs ys slots e all)
    ∙ ap (λ bytes. positions_in xs slots ++ position_in bytes ∷ []) is

-- the slot of a number
pub slice_get-positions : (others : List ℕ) (slots : List Slot) (i : ℕ) (slot : Slot) → slice_get slots i ≡ Some slot
    → slice_get (positions_in others slots) i ≡ Some (position_in (bytes_in others slot))
slice_get-positions others slots i slot e = slice_get-map (λ s. position_in (bytes_in others s)) slots i ∙ ap (option_map (λ s. position_in (bytes_in others s))) e

pub slot-kept : (others : List ℕ) (slots : List Slot) (i : ℕ) (slot : Slot) → All (IsKept others) slots → i < length slots → slice_get slots i ≡ Some slot
    → IsKept others slot
slot-kept others slots i slot all l e =
    subst (IsKept others) (get_or_from_slice_get slots i slot slot e) (All-get_or (IsKept others) slots i slot l all)
