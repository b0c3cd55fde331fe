-- The room, told from the least load of any assignment.
use Rattle.std.proofs.Common.{◌≡◌, ◌↔◌, ℕ, zero, suc, sum, ◌*◌, ◌+◌, ◌-◌, ◌<◌, ◌≤◌, List, [], ◌∷◌, ◌++◌, length, get_or, set, drop, refl, sym, ap, ◌∙◌, subst, arith}
use Rattle.std.specs.Prelude.{All, Contains}
use Rattle.std.proofs.lemmas.List.{get_or-set_same, get_or_default, length-set, set-set, set-get_or}
use Rattle.std.proofs.lemmas.List.Elements.{All-contains}
use Rattle.std.proofs.lemmas.List.Sums.{sum_by-append, sum_by-cons}
use Rattle.items.specs.Game.{GameNumbers}
use Rattle.items.specs.Multiset.{IsSize, Same}
use Rattle.items.specs.Packable.{Packable, IsRoom}
use Rattle.items.proofs.SameLemmas.{Same-append_comm, Same-push, Same-refl, Same-sym}
use Rattle.packing_witness.proofs.PackableLemmas.{Packable-Same, sum-Packable-le}
use Rattle.packing_witness.proofs.PackingLemmas.{size_of_last}
use Rattle.loads.proofs.CountLemmas.{Contains-Same}
use Rattle.reachable_loads.specs.Rooms.{IsRoomBetween}
use Rattle.reach_planes.specs.Reached.{totals, HasTotals, IsLeastLoad}
use Rattle.reach_planes.proofs.TotalsLemmas.{All-HasTotals, bin_to_take, HasTotals-put}
use Rattle.reach_planes.proofs.LoadLemmas.{descending_form, Same-descending_form, IsReached-from_totals, HasTotals-reached}

-- what the room is where the items do not fit
pub IsRoom-none : (game : GameNumbers) (items : List ℕ) → (Packable game items → ⊥) → (size : ℕ) → Packable game (items ++ size ∷ []) ↔ (1 ≤ size) × (size ≤ 0)
IsRoom-none game items none size = (
  λ p. let b =
      bin_to_take game items (totals game (items ++ size ∷ []) p.0) size (p.0, p.1, Same-refl (totals game (items ++ size ∷ []) p.0)) in absurd (none (b.before.0, b.before.1)),
  λ h. absurd (omega (arith, h.0, h.1)),
)

-- a load with an item that is put in and taken out again
restored : (loads : List ℕ) (k size : ℕ) → k < length loads → set (set loads k (get_or loads k 0 + size)) k (get_or (set loads k (get_or loads k 0 + size)) k 0 - size) ≡ loads
restored loads k size l =
    let e : get_or (set loads k (get_or loads k 0 + size)) k 0 - size ≡ get_or loads k 0 = omega (arith, get_or-set_same loads k (get_or loads k 0 + size) 0 l) in
    set-set loads k (get_or loads k 0 + size) _ ∙ ap (set loads k) e ∙ set-get_or loads k 0

-- an item that the least load leaves room for fits, and no larger one
pub law_of_least : (game : GameNumbers) (items : List ℕ) (least : ℕ) → IsLeastLoad game items least → (size : ℕ) → Packable game (items ++ size ∷ []) ↔ (1 ≤ size)
    × (size ≤ game.capacity - least)
law_of_least game items least h size = (
  λ p.
      let loads = totals game (items ++ size ∷ []) p.0 in
      let t : HasTotals game (items ++ size ∷ []) loads = (p.0, p.1, Same-refl loads) in
      let b = bin_to_take game items loads size t in
      let low = set loads b.bin (get_or loads b.bin 0 - size) in
      let fit = All-HasTotals game (items ++ size ∷ []) loads t b.bin 0 b.in_range in
      let here : Contains low (get_or loads b.bin 0 - size) = (
        b.bin,
        omega (arith, b.in_range, length-set loads b.bin (get_or loads b.bin 0 - size)),
        get_or-set_same loads b.bin (get_or loads b.bin 0 - size) (get_or loads b.bin 0 - size) b.in_range,
      ) in
      let member = Contains-Same (get_or loads b.bin 0 - size) low (descending_form low) (Same-descending_form low) here in
      let bound = All-contains (λ load. least ≤ load) (descending_form low) (get_or loads b.bin 0 - size) (h.bound (descending_form low)
      (IsReached-from_totals game items low b.before)) member in
      (b.of_game.low, omega (arith, bound, b.held, fit)),
  λ (some, within).
      let was = HasTotals-reached game items h.loads h.reached in
      let k : ℕ = h.member.0 in
      let l : k < length h.loads = h.member.1 in
      let e : get_or h.loads k 0 ≡ least = get_or_default h.loads k 0 least l ∙ h.member.2 in
      let raised = set h.loads k (get_or h.loads k 0 + size) in
      let at : get_or raised k 0 ≡ get_or h.loads k 0 + size = get_or-set_same h.loads k (get_or h.loads k 0 + size) 0 l in
      let after = HasTotals-put game items raised size k (record { low = some; high = omega (arith, within) }) (omega (arith, l, length-set h.loads k (get_or h.loads k 0 + size)))
      (omega (arith, at, e, within, some)) (omega (arith, at)) (subst (HasTotals game items) (sym (restored h.loads k size l)) was) in
      (after.0, after.1),
)

pub least-le_capacity_of_game : (game : GameNumbers) (items : List ℕ) (least : ℕ) → IsLeastLoad game items least → least ≤ game.capacity
least-le_capacity_of_game game items least h =
    All-contains (λ load. load ≤ game.capacity) h.loads least (All-HasTotals game items h.loads (HasTotals-reached game items h.loads h.reached)) h.member

-- lists of the same items have the same room
pub IsRoom-Same : (game : GameNumbers) (xs ys : List ℕ) (room : ℕ) → Same xs ys → IsRoom game xs room → IsRoom game ys room
IsRoom-Same game xs ys room s r = record {
  within = r.within;
  may_come = λ some. Packable-Same game (xs ++ room ∷ []) (ys ++ room ∷ []) (Same-push xs ys room s) (r.may_come some);
  greatest = λ size above fit p. r.greatest size above fit (Packable-Same game (ys ++ size ∷ []) (xs ++ size ∷ []) (Same-push ys xs size (Same-sym xs ys s)) p);
}

-- a bound on the room that is the size of an item that may come is the room
pub IsRoom-bound : (game : GameNumbers) (items : List ℕ) (room : ℕ) → room ≤ game.capacity → ((size : ℕ) → Packable game (items ++ size ∷ []) → size ≤ room)
    → (1 ≤ room → Packable game (items ++ room ∷ [])) → IsRoom game items room
IsRoom-bound game items room within bound may = record {
  within = within;
  may_come = may;
  greatest = λ size above fit p. omega (arith, bound size p, above);
}

-- what is between a size that may come and a bound
pub IsRoomBetween-from : (game : GameNumbers) (items : List ℕ) (least most : ℕ) → most ≤ game.capacity → (1 ≤ least → Packable game (items ++ least ∷ []))
    → ((size : ℕ) → Packable game (items ++ size ∷ []) → size ≤ most) → (1 ≤ most → All (IsSize game.capacity) items) → IsRoomBetween game items least most
IsRoomBetween-from game items zero most within may bound sizes =
    record { order = omega arith; within = within; may_come = may; bound = bound; sizes = sizes }
IsRoomBetween-from game items (suc n) most within may bound sizes =
    record { order = bound (suc n) (may (omega arith)); within = within; may_come = may; bound = bound; sizes = sizes }

-- a room between two sizes that are one
pub IsRoom-between : (game : GameNumbers) (items : List ℕ) (least most : ℕ) → IsRoomBetween game items least most → least ≡ most → IsRoom game items least
IsRoom-between game items least most h e =
    IsRoom-bound game items least (omega (arith, h.within, e)) (λ size p. omega (arith, h.bound size p, e)) h.may_come

-- what the capacity and the total of the bins leave is a bound on the room
pub bound_by_volume : (game : GameNumbers) (items : List ℕ) (size : ℕ) → Packable game (items ++ size ∷ []) → (size ≤ game.capacity)
    × (sum items + size ≤ game.bins * game.capacity)
bound_by_volume game items size p =
    let total = sum-Packable-le game (items ++ size ∷ []) p in
    ((size_of_last game items size p).high, omega (arith, total, sum_by-append (λ x. x) items (size ∷ []), sum_by-cons (λ x. x) size []))

-- a size at the first place of a list, before the others
first_is : (list : List ℕ) (size : ℕ) → 1 ≤ length list → set list 0 size ≡ size ∷ drop 1 list
first_is [] size l = absurd (omega (arith, l))
first_is (x ∷ xs) size l = refl

pub Same-put_first : (list others : List ℕ) (size : ℕ) → 1 ≤ length list → drop 1 list ≡ others → Same (set list 0 size) (others ++ size ∷ [])
Same-put_first list others size l e =
    subst (λ xs. Same xs (others ++ size ∷ [])) (sym (first_is list size l ∙ ap (λ xs. size ∷ xs) e)) (Same-append_comm (size ∷ []) others)

pub others_put_first : (list others : List ℕ) (size : ℕ) → 1 ≤ length list → drop 1 list ≡ others → drop 1 (set list 0 size) ≡ others
others_put_first list others size l e = ap (drop 1) (first_is list size l) ∙ e
