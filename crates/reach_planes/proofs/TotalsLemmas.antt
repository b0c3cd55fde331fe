-- Totals of assignments, and what one more item does to them.
use Rattle.std.proofs.Common.{◌≡◌, ℕ, ◌+◌, ◌-◌, ◌<◌, ◌≤◌, cond, eqb, List, [], ◌∷◌, ◌++◌, length}
use Rattle.std.proofs.Common.{get_or, set, sum, refl, sym, ap, ◌∙◌, subst, arith, inl, inr, ◌⊎◌}
use Rattle.std.specs.Prelude.{All, Contains}
use Rattle.std.specs.List.{range_with_len, sum_by}
use Rattle.std.proofs.lemmas.Bool.{cases_lt}
use Rattle.std.proofs.lemmas.List.{get_or-set_same, length-set, get_or_default, length_push}
use Rattle.std.proofs.lemmas.List.{get_or_append_left, get_or-append_right, set-append_left, set-append_right}
use Rattle.std.proofs.lemmas.List.Sums.{sum_by-cons, sum_by-set, sum-map, sum_by-append}
use Rattle.std.proofs.lemmas.List.Elements.{All-head, All-tail, All-from_get_or, Contains-get_or}
use Rattle.items.specs.Game.{GameNumbers}
use Rattle.items.specs.Multiset.{IsSize, Same}
use Rattle.items.specs.Packable.{bin_total}
use Rattle.items.proofs.AssignmentLemmas.{sum-mark, sum_none}
use Rattle.items.proofs.MultisetLemmas.{count-sum_by, length-Same, sum-Same}
use Rattle.items.proofs.SameLemmas.{Same-sym, Same-trans}
use Rattle.loads.proofs.CountLemmas.{Contains-Same}
use Rattle.reach_planes.specs.Reached.{totals, HasTotals}
use Rattle.reach_planes.specs.Layout.{IsStart}
use Rattle.reach_planes.proofs.AssignmentLemmas.{length-totals, get_or-totals, totals-push, IsAssignment-push, PutsLast, puts_last}

-- totals that differ from given loads in their order alone are as many as the bins and fit
pub length-HasTotals : (game : GameNumbers) (items loads : List ℕ) → HasTotals game items loads → length loads ≡ game.bins
length-HasTotals game items loads h = sym (length-Same (totals game items h.0) loads h.2) ∙ length-totals game items h.0

pub All-HasTotals : (game : GameNumbers) (items loads : List ℕ) → HasTotals game items loads → All (λ load. load ≤ game.capacity) loads
All-HasTotals game items loads h =
    All-from_get_or (λ load. load ≤ game.capacity) loads 0 (λ k l.
    let load : ℕ = get_or loads k 0 in
    let c = Contains-Same load loads (totals game items h.0) (Same-sym (totals game items h.0) loads h.2) (Contains-get_or loads k 0 l) in
    let within : c.0 < game.bins = omega (arith, c.1, length-totals game items h.0) in
    omega (arith, get_or-totals game items h.0 c.0 load within, c.2, h.1.fits c.0 within))

-- each item counts in one bin
sum-bin_totals : (n : ℕ) (items bins : List ℕ) → length bins ≡ length items → All (λ bin. bin < n) bins → sum_by (λ b. bin_total b items bins) (range_with_len 0 n) ≡ sum items
sum-bin_totals n [] bins e a = sum_none 0 n
sum-bin_totals n (item ∷ items) [] e a = absurd (omega arith)
sum-bin_totals n (item ∷ items) (c ∷ bins) e a =
    sum-mark c item (λ b. bin_total b items bins) 0 n (omega arith) (let h = All-head (λ bin. bin < n) c bins a in omega (arith, h))
    ∙ ap {B = ℕ} (λ k. item + k) (sum-bin_totals n items bins (omega arith) (All-tail (λ bin. bin < n) c bins a)) ∙ sym (sum_by-cons (λ x. x) item items)

-- totals sum to the items' sum
pub sum-HasTotals : (game : GameNumbers) (items loads : List ℕ) → HasTotals game items loads → sum loads ≡ sum items
sum-HasTotals game items loads h =
    sym (sum-Same (totals game items h.0) loads h.2) ∙ sum-map (λ bin. bin_total bin items h.0) (range_with_len 0 game.bins)
    ∙ sum-bin_totals game.bins items h.0 h.1.one_each h.1.of_game

-- one number of a list that is, but for its order, a list in which a number was raised
lowered_same : (xs ys : List ℕ) (j k size : ℕ) → j < length xs → k < length ys → Same (set xs j (get_or xs j 0 + size)) ys → get_or ys k 0 ≡ get_or xs j 0 + size
    → Same xs (set ys k (get_or ys k 0 - size))
lowered_same xs ys j k size lj lk s e x =
    let f : ℕ → ℕ = λ y. cond (eqb x y) 1 0 in
    let low : get_or ys k 0 - size ≡ get_or xs j 0 = omega (arith, e) in
    omega (
      arith,
      s x,
      count-sum_by x xs,
      count-sum_by x ys,
      count-sum_by x (set xs j (get_or xs j 0 + size)),
      count-sum_by x (set ys k (get_or ys k 0 - size)),
      sum_by-set f xs j (get_or xs j 0 + size) 0 lj,
      sum_by-set f ys k (get_or ys k 0 - size) 0 lk,
      ap f e,
      ap f low,
    )

raised_same : (xs ys : List ℕ) (j k size : ℕ) → j < length xs → k < length ys → size ≤ get_or ys k 0 → Same xs (set ys k (get_or ys k 0 - size))
    → get_or xs j 0 ≡ get_or ys k 0 - size → Same (set xs j (get_or xs j 0 + size)) ys
raised_same xs ys j k size lj lk le s e x =
    let f : ℕ → ℕ = λ y. cond (eqb x y) 1 0 in
    let high : get_or xs j 0 + size ≡ get_or ys k 0 = omega (arith, e) in
    omega (
      arith,
      s x,
      count-sum_by x xs,
      count-sum_by x ys,
      count-sum_by x (set xs j (get_or xs j 0 + size)),
      count-sum_by x (set ys k (get_or ys k 0 - size)),
      sum_by-set f xs j (get_or xs j 0 + size) 0 lj,
      sum_by-set f ys k (get_or ys k 0 - size) 0 lk,
      ap f e,
      ap f high,
    )

-- the last item of an assignment can be taken out of a bin with some load
pub record HasBinToTake (game : GameNumbers) (items loads : List ℕ) (size : ℕ) : Type 0 where
  pub bin : ℕ
  pub in_range : bin < length loads
  pub held : size ≤ get_or loads bin 0
  pub before : HasTotals game items (set loads bin (get_or loads bin 0 - size))
  pub of_game : IsSize game.capacity size

taken_from : (game : GameNumbers) (items loads bins : List ℕ) (size : ℕ) → PutsLast game items size bins → Same (totals game (items ++ size ∷ []) bins) loads
    → HasBinToTake game items loads size
taken_from game items loads bins size p s =
    let was = totals game items p.before in
    let load : ℕ = bin_total p.to items p.before in
    let within : p.to < length was = omega (arith, p.in_game, length-totals game items p.before) in
    let at : get_or was p.to 0 ≡ load = get_or-totals game items p.before p.to 0 p.in_game in
    let raised : totals game (items ++ size ∷ []) bins ≡ set was p.to (get_or was p.to 0 + size) = ap (totals game (items ++ size ∷ [])) p.is
    ∙ totals-push game items p.before size p.to p.assigned.one_each p.in_game ∙ ap (λ n. set was p.to (n + size)) (sym at) in
    let s' : Same (set was p.to (get_or was p.to 0 + size)) loads = subst (λ xs. Same xs loads) raised s in
    let here : Contains (set was p.to (get_or was p.to 0 + size)) (get_or was p.to 0 + size) = (
      p.to,
      omega (arith, within, length-set was p.to (get_or was p.to 0 + size)),
      get_or-set_same was p.to (get_or was p.to 0 + size) (get_or was p.to 0 + size) within,
    ) in
    let c = Contains-Same (get_or was p.to 0 + size) (set was p.to (get_or was p.to 0 + size)) loads s' here in
    let e : get_or loads c.0 0 ≡ get_or was p.to 0 + size = get_or_default loads c.0 0 (get_or was p.to 0 + size) c.1 ∙ c.2 in
    record {
      bin = c.0;
      in_range = c.1;
      held = omega (arith, e);
      before = (p.before, p.assigned, lowered_same was loads p.to c.0 size within c.1 s' e);
      of_game = p.of_game;
    }

pub bin_to_take : (game : GameNumbers) (items loads : List ℕ) (size : ℕ) → HasTotals game (items ++ size ∷ []) loads → HasBinToTake game items loads size
bin_to_take game items loads size h = taken_from game items loads h.0 size (puts_last game items size h.0 h.1) h.2

-- an item may be put where the loads without it are reached
pub HasTotals-put : (game : GameNumbers) (items loads : List ℕ) (size k : ℕ) → IsSize game.capacity size → k < length loads → get_or loads k 0 ≤ game.capacity
    → size ≤ get_or loads k 0 → HasTotals game items (set loads k (get_or loads k 0 - size)) → HasTotals game (items ++ size ∷ []) loads
HasTotals-put game items loads size k s l fit le h =
    let was = totals game items h.0 in
    let low = set loads k (get_or loads k 0 - size) in
    let here : Contains low (get_or loads k 0 - size) = (
      k,
      omega (arith, l, length-set loads k (get_or loads k 0 - size)),
      get_or-set_same loads k (get_or loads k 0 - size) (get_or loads k 0 - size) l,
    ) in
    let c = Contains-Same (get_or loads k 0 - size) low was (Same-sym was low h.2) here in
    let within : c.0 < game.bins = omega (arith, c.1, length-totals game items h.0) in
    let e : get_or was c.0 0 ≡ get_or loads k 0 - size = get_or_default was c.0 0 (get_or loads k 0 - size) c.1 ∙ c.2 in
    let at : get_or was c.0 0 ≡ bin_total c.0 items h.0 = get_or-totals game items h.0 c.0 0 within in
    let after : totals game (items ++ size ∷ []) (h.0 ++ c.0 ∷ []) ≡ set was c.0 (get_or was c.0 0 + size) = totals-push game items h.0 size c.0 h.1.one_each within
    ∙ ap (λ n. set was c.0 (n + size)) (sym at) in (
      h.0 ++ c.0 ∷ [],
      IsAssignment-push game items h.0 size c.0 h.1 s within (omega (arith, at, e, fit, le)),
      subst (λ xs. Same xs loads) (sym after) (raised_same was loads c.0 k size c.1 l le h.2 e),
    )

-- totals in another order
pub HasTotals-Same : (game : GameNumbers) (items xs ys : List ℕ) → Same xs ys → HasTotals game items xs → HasTotals game items ys
HasTotals-Same game items xs ys s h = (h.0, h.1, Same-trans (totals game items h.0) xs ys h.2 s)

-- the load at the end of a list of first loads
at_end : (first : List ℕ) (last k : ℕ) → k ≡ length first → get_or (first ++ last ∷ []) k 0 ≡ last
at_end first last k e =
    get_or-append_right first (last ∷ []) (length first) k 0 refl (omega (arith, e)) ∙ ap (λ i. get_or (last ∷ []) i 0) (let z : k - length first ≡ 0 = omega (arith, e) in z)

set_end : (first : List ℕ) (last k v : ℕ) → k ≡ length first → set (first ++ last ∷ []) k v ≡ first ++ v ∷ []
set_end first last k v e =
    set-append_right first (last ∷ []) (length first) k v refl (omega (arith, e)) ∙ ap (λ i. first ++ set (last ∷ []) i v) (let z : k - length first ≡ 0 = omega (arith, e) in z)

pub sum_end : (first : List ℕ) (last : ℕ) → sum (first ++ last ∷ []) ≡ sum first + last
sum_end first last = omega (arith, sum_by-append (λ x. x) first (last ∷ []), sum_by-cons (λ x. x) last [])

-- the last load that goes with first loads
pub last_of_start : (game : GameNumbers) (items first : List ℕ) (h : IsStart game items first) → sum first + h.0 ≡ sum items
last_of_start game items first h = sym (sum_end first h.0) ∙ sum-HasTotals game items (first ++ h.0 ∷ []) h.1

-- what an item did to first loads: it went to the last bin, or to one of the first
pub record WentLast (game : GameNumbers) (items first : List ℕ) (size : ℕ) : Type 0 where
  pub before : IsStart game items first
  pub room : sum items + size ≤ game.capacity + sum first

pub record WentTo (game : GameNumbers) (items first : List ℕ) (size k : ℕ) : Type 0 where
  pub in_range : k < length first
  pub held : size ≤ get_or first k 0
  pub before : IsStart game items (set first k (get_or first k 0 - size))

went : (game : GameNumbers) (items first : List ℕ) (last size : ℕ) → HasTotals game (items ++ size ∷ []) (first ++ last ∷ []) → WentLast game items first size
    ⊎ ((k : ℕ) × WentTo game items first size k)
went game items first last size h =
    let b = bin_to_take game items (first ++ last ∷ []) size h in
    let n = length_push first last in
    elim (cases_lt b.bin (length first)) [
      | inl l ↦
          let at : get_or (first ++ last ∷ []) b.bin 0 ≡ get_or first b.bin 0 = get_or_append_left first (last ∷ []) 0 b.bin l in
          let moved : set (first ++ last ∷ []) b.bin (get_or (first ++ last ∷ []) b.bin 0 - size) ≡ set first b.bin (get_or first b.bin 0 - size) ++ last ∷ [] =
          set-append_left first (last ∷ []) b.bin (get_or (first ++ last ∷ []) b.bin 0 - size) l ∙ ap (λ v. set first b.bin (v - size) ++ last ∷ []) at in
          inr (b.bin, record { in_range = l; held = omega (arith, b.held, at); before = (last, subst (HasTotals game items) moved b.before) })
      | inr l ↦
          let here : b.bin ≡ length first = omega (arith, l, b.in_range, n) in
          let at : get_or (first ++ last ∷ []) b.bin 0 ≡ last = at_end first last b.bin here in
          let moved : set (first ++ last ∷ []) b.bin (get_or (first ++ last ∷ []) b.bin 0 - size) ≡ first ++ (last - size) ∷ [] = set_end first last b.bin (get_or
          (first ++ last ∷ []) b.bin 0 - size) here ∙ ap (λ v. first ++ (v - size) ∷ []) at in
          let before : HasTotals game items (first ++ (last - size) ∷ []) = subst (HasTotals game items) moved b.before in
          let fit : last ≤ game.capacity = omega (arith, All-HasTotals game (items ++ size ∷ []) (first ++ last ∷ []) h b.bin 0 b.in_range, at) in
          inl (record {
            before = (last - size, before);
            room = omega (
              arith,
              sum_end first (last - size),
              sum-HasTotals game items (first ++ (last - size) ∷ []) before,
              fit,
              b.held,
              at,
            );
          })
    ]

pub went_somewhere : (game : GameNumbers) (items first : List ℕ) (size : ℕ) → IsStart game (items ++ size ∷ []) first → WentLast game items first size
    ⊎ ((k : ℕ) × WentTo game items first size k)
went_somewhere game items first size h = went game items first h.0 size h.1

pub IsStart-last : (game : GameNumbers) (items first : List ℕ) (size : ℕ) → IsSize game.capacity size → WentLast game items first size → IsStart game (items ++ size ∷ []) first
IsStart-last game items first size s w =
    let last : ℕ = w.before.0 in
    let k : ℕ = length first in
    let loads = first ++ (last + size) ∷ [] in
    let at : get_or loads k 0 ≡ last + size = at_end first (last + size) k refl in
    let fit : get_or loads k 0 ≤ game.capacity = omega (arith, at, w.room, last_of_start game items first w.before) in
    let low : get_or loads k 0 - size ≡ last = omega (arith, at) in
    let moved : set loads k (get_or loads k 0 - size) ≡ first ++ last ∷ [] = set_end first (last + size) k (get_or loads k 0 - size) refl ∙ ap (λ v. first ++ v ∷ []) low in (
      last + size,
      HasTotals-put game items loads size k s (omega (arith, length_push first (last + size))) fit (omega (arith, at))
          (subst (HasTotals game items) (sym moved) w.before.1),
    )

pub IsStart-to : (game : GameNumbers) (items first : List ℕ) (size k : ℕ) → IsSize game.capacity size → get_or first k 0 ≤ game.capacity → WentTo game items first size k
    → IsStart game (items ++ size ∷ []) first
IsStart-to game items first size k s fit w =
    let last : ℕ = w.before.0 in
    let loads = first ++ last ∷ [] in
    let at : get_or loads k 0 ≡ get_or first k 0 = get_or_append_left first (last ∷ []) 0 k w.in_range in
    let moved : set loads k (get_or loads k 0 - size) ≡ set first k (get_or first k 0 - size) ++ last ∷ [] = set-append_left first (last ∷ []) k
    (get_or loads k 0 - size) w.in_range ∙ ap (λ v. set first k (v - size) ++ last ∷ []) at in (
      last,
      HasTotals-put game items loads size k s (omega (arith, length_push first last, w.in_range)) (omega (arith, at, fit)) (omega (arith, at, w.held))
          (subst (HasTotals game items) (sym moved) w.before.1),
    )
