-- Loads after an item.
use Rattle.std.proofs.Common.{◌≡◌, ℕ, zero, suc, ◌+◌, ◌*◌, ◌<◌, ◌≤◌, true, List, [], ◌∷◌, leb, refl, inl, inr, length, get_or, set, cond, eqb, sum, arith, sym, ap, ◌∙◌, subst}
use Rattle.std.proofs.Common.{Option, Some, None}
use Rattle.std.specs.Prelude.{All, Contains, IfSome, MatchOption}
use Rattle.std.proofs.lemmas.List.{get_or_default}
use Rattle.std.specs.List.{sum_by}
use Rattle.std.proofs.lemmas.List.Sums.{sum_by-set, sum_by-le}
use Rattle.std.proofs.lemmas.Bool.{leb-true, leb-false, le-leb, cases_Bool}
use Rattle.std.proofs.lemmas.List.Elements.{All-weaker, All-contains}
use Rattle.items.specs.declared.limits.TheConstants.{MOST_SIZE}
use Rattle.items.specs.Game.{GameNumbers, IsGame}
use Rattle.items.specs.Multiset.{count, Same, IsSize, IsMultiset}
use Rattle.loads.specs.Descending.{IsDescending, put_descending, take_out}
use Rattle.loads.specs.Loads.{AreLoads, IsLoads, IsLowestBin, loads_after}
use Rattle.loads.specs.Position.{AreItemsOf}
use Rattle.loads.proofs.DescendingLemmas.{IsDescending-tail, IsDescending-head, IsDescending-put, IsDescending-take_out, All-put}
use Rattle.loads.proofs.DescendingLemmas.{All-take_out, length-put, length-take_out}
use Rattle.items.proofs.MultisetLemmas.{count-sum_by}
use Rattle.loads.proofs.CountLemmas.{Contains-Same, sum_by-put, sum_by-take_out, equal_from_Same}

-- loads of a game are loads of some game
pub AreLoads-of_game : (game : GameNumbers) (loads : List ℕ) → IsGame game → IsLoads game loads → AreLoads loads
AreLoads-of_game game loads g h = record {
  few = omega (arith, h.one_each, g.bins.high);
  descending = h.descending;
  below = All-weaker (λ load. load < game.target) (λ load. load < 2 * MOST_SIZE) (λ load l. omega (arith, l, g.target.high, g.capacity.high)) loads h.below_target;
}

-- they sum to at most 1,912
pub loads_total : (game : GameNumbers) (loads : List ℕ) → IsGame game → IsLoads game loads → sum loads ≤ 1912
loads_total game loads g l =
    let each = All-weaker (λ x. x < game.target) (λ x. x ≤ 239) (λ x h. omega (arith, h, g.target.high, g.capacity.high)) loads l.below_target in
    omega (arith, sum_by-le (λ x. x) 239 loads each, l.one_each, g.bins.high)

-- and the items that make them are a multiset
pub multiset_from_items : (game : GameNumbers) (sizes loads items : List ℕ) → IsGame game → All (IsSize game.capacity) sizes → IsLoads game loads
    → AreItemsOf sizes loads items → IsMultiset game.capacity items
multiset_from_items game sizes loads items g s l a = record {
  ascending = a.ascending;
  sizes = All-weaker (Contains sizes) (IsSize game.capacity) (λ x c. All-contains (IsSize game.capacity) sizes x s c) items a.allowed;
  total = omega (arith, loads_total game loads g l, a.total);
}

-- with sizes of any game
pub multiset_of_loads : (game : GameNumbers) (sizes loads items : List ℕ) → IsGame game → All (IsSize game.capacity) sizes → IsLoads game loads
    → AreItemsOf sizes loads items → IsMultiset 120 items
multiset_of_loads game sizes loads items g s l a =
    let m = multiset_from_items game sizes loads items g s l a in
    record {
      ascending = m.ascending;
      sizes = All-weaker (IsSize game.capacity) (IsSize 120) (λ x h. record { low = h.low; high = omega (arith, h.high, g.capacity.high) }) items m.sizes;
      total = m.total;
    }

-- an item in a bin that stays below the target leaves loads of the game
pub IsLoads-after : (game : GameNumbers) (loads : List ℕ) (load size : ℕ) → IsLoads game loads → Contains loads load → load + size < game.target
    → IsLoads game (loads_after loads load size)
IsLoads-after game loads load size h member below = record {
  one_each = omega (arith, h.one_each, length-put (load + size) (take_out load loads), length-take_out load loads member);
  descending = IsDescending-put (load + size) (take_out load loads) (IsDescending-take_out load loads h.descending);
  below_target = All-put (λ held. held < game.target) (load + size) (take_out load loads) below (All-take_out (λ held. held < game.target) load loads h.below_target);
}

pub legal_after : (game : GameNumbers) (loads : List ℕ) (load size : ℕ) (found : Option (List ℕ)) → IsLoads game loads → load + size < game.target
    → MatchOption found (¬ Contains loads load) (λ after. Contains loads load × (after ≡ loads_after loads load size)) → IfSome found (IsLoads game)
legal_after game loads load size None l below m = tt
legal_after game loads load size (Some after) l below m = subst (IsLoads game) (sym m.1) (IsLoads-after game loads load size l m.0 below)

pub AreLoads-after : (loads : List ℕ) (load size : ℕ) → AreLoads loads → Contains loads load → load + size < 240 → AreLoads (loads_after loads load size)
AreLoads-after loads load size h member below = record {
  few = omega (arith, h.few, length-put (load + size) (take_out load loads), length-take_out load loads member);
  descending = IsDescending-put (load + size) (take_out load loads) (IsDescending-take_out load loads h.descending);
  below = All-put (λ held. held < 240) (load + size) (take_out load loads) below (All-take_out (λ held. held < 240) load loads h.below);
}

-- a bin with the load shows that the load is there
pub Contains-from_lowest : (xs : List ℕ) (load bin : ℕ) → IsLowestBin xs load bin → Contains xs load
Contains-from_lowest xs load bin h = (bin, h.in_range, get_or_default xs bin load 0 h.in_range ∙ h.has_load)

-- what a sum over loads gains by an item
pub sum_by-loads_after : (f : ℕ → ℕ) (loads : List ℕ) (load size : ℕ) → Contains loads load → sum_by f (loads_after loads load size) + f load ≡ sum_by f loads + f (load + size)
sum_by-loads_after f loads load size member =
    omega (arith, sum_by-put f (load + size) (take_out load loads), sum_by-take_out f load loads member)

pub sum-loads_after : (loads : List ℕ) (load size : ℕ) → Contains loads load → sum (loads_after loads load size) ≡ sum loads + size
sum-loads_after loads load size member = let e = sum_by-loads_after (λ x. x) loads load size member in omega arith

pub length-loads_after : (loads : List ℕ) (load size : ℕ) → Contains loads load → length (loads_after loads load size) ≡ length loads
length-loads_after loads load size member =
    omega (arith, length-put (load + size) (take_out load loads), length-take_out load loads member)

pub count-loads_after : (x : ℕ) (loads : List ℕ) (load size : ℕ) → Contains loads load
    → count x (loads_after loads load size) + cond (eqb x load) 1 0 ≡ count x loads + cond (eqb x (load + size)) 1 0
count-loads_after x loads load size member =
    let e = sum_by-loads_after (λ y. cond (eqb x y) 1 0) loads load size member in
    omega (arith, count-sum_by x (loads_after loads load size), count-sum_by x loads)

-- an item in any bin of a load gives the loads after it, whatever the bins' numbers
pub Same-loads_after : (actual loads : List ℕ) (bin load size : ℕ) → Same actual loads → bin < length actual → get_or actual bin 0 ≡ load
    → Same (set actual bin (load + size)) (loads_after loads load size)
Same-loads_after actual loads bin load size same within has x =
    let here : Contains actual load = (bin, within, get_or_default actual bin load 0 within ∙ has) in
    let gained = count-loads_after x loads load size (Contains-Same load actual loads same here) in
    let written = sum_by-set (λ y. cond (eqb x y) 1 0) actual bin (load + size) 0 within in
    omega (arith, same x, count-sum_by x (set actual bin (load + size)), count-sum_by x actual, ap {B = ℕ} (λ y. cond (eqb x y) 1 0) has)

-- loads of a game are the loads of that multiset
pub equal_from_Same-loads : (game : GameNumbers) (xs ys : List ℕ) → IsLoads game xs → IsLoads game ys → Same xs ys → xs ≡ ys
equal_from_Same-loads game xs ys h k = equal_from_Same xs ys h.descending k.descending

-- a number put back where it was taken out
pub put_descending-take_out : (x : ℕ) (ys : List ℕ) → IsDescending ys → Contains ys x → put_descending x (take_out x ys) ≡ ys
put_descending-take_out x ys h member =
    equal_from_Same (put_descending x (take_out x ys)) ys (IsDescending-put x (take_out x ys) (IsDescending-take_out x ys h)) h (λ z.
    let put = sum_by-put (λ y. cond (eqb z y) 1 0) x (take_out x ys) in
    let out = sum_by-take_out (λ y. cond (eqb z y) 1 0) x ys member in
    omega (arith, count-sum_by z (put_descending x (take_out x ys)), count-sum_by z ys))

-- a number that is no less than the first goes to the front
put_descending-front : (x : ℕ) (ys : List ℕ) → IsDescending (x ∷ ys) → put_descending x ys ≡ x ∷ ys
put_descending-front x [] h = refl
put_descending-front x (y ∷ ys) h = let e = le-leb y x (IsDescending-head x y ys h) in rw e refl

cons_rises : (x y : ℕ) (xs ys : List ℕ) → x ≤ y → ((k : ℕ) → get_or xs k 0 ≤ get_or ys k 0) → (k : ℕ) → get_or (x ∷ xs) k 0 ≤ get_or (y ∷ ys) k 0
cons_rises x y xs ys le h zero = le
cons_rises x y xs ys le h (suc k) = h k

-- a greater number put in leaves no place lower
pub put_descending-rises : (a b : ℕ) (ys : List ℕ) → a ≤ b → IsDescending ys → (k : ℕ) → get_or (put_descending a ys) k 0 ≤ get_or (put_descending b ys) k 0
put_descending-rises a b [] le h = cons_rises a b [] [] le (λ k. omega arith)
put_descending-rises a b (y ∷ ys) le h =
    let t = IsDescending-tail y ys h in
    elim (cases_Bool (leb y a)) [
      | inl low ↦
          let high : leb y b ≡ true = le-leb y b (let l = leb-true y a low in omega arith) in
          rw (low, high) (cons_rises a b (y ∷ ys) (y ∷ ys) le (λ k. omega arith))
      | inr low ↦
          let under = leb-false y a low in
          elim (cases_Bool (leb y b)) [
            | inl high ↦ rw (low, high) (cons_rises y b (put_descending a ys) (y ∷ ys) (leb-true y b high)
                (λ k. let r = put_descending-rises a y ys (omega arith) t k in rw (put_descending-front y ys h) at r))
            | inr high ↦ rw (low, high) (cons_rises y y (put_descending a ys) (put_descending b ys) (omega arith) (put_descending-rises a b ys le t))
          ]
    ]

-- no place of the loads is lower after an item
pub loads_after-rises : (loads : List ℕ) (load size : ℕ) → IsDescending loads → Contains loads load → (k : ℕ) → get_or loads k 0 ≤ get_or (loads_after loads load size) k 0
loads_after-rises loads load size h member k =
    let out = take_out load loads in
    let r = put_descending-rises load (load + size) out (omega arith) (IsDescending-take_out load loads h) k in
    rw (put_descending-take_out load loads h member) at r
