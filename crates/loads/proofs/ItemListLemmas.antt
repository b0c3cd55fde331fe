-- Items that follow on from a lowest size and have a total, and a number put in at its place.
use Rattle.std.proofs.Common.{eqb, leb, inl, inr, ◌≡◌, ℕ, zero, suc, ◌+◌, ◌-◌, ◌<◌, ◌≤◌, true, false, List, [], ◌∷◌, ◌++◌, length, take, drop, get_or, refl, sym, ap, ◌∙◌}
use Rattle.std.proofs.Common.{subst, sum, arith, Contains}
use Rattle.std.specs.Prelude.{◌↔◌}
use Rattle.std.specs.List.{All}
use Rattle.std.proofs.Math.Seq.{drop-cons, take-length}
use Rattle.std.proofs.lemmas.List.{take-append-drop, take-append-le, drop_at, length-append}
use Rattle.std.proofs.lemmas.List.Elements.{All-tail, All-cons, All-weaker}
use Rattle.std.proofs.lemmas.List.Sums.{sum_by-cons, sum_by-le}
use Rattle.items.specs.declared.limits.TheConstants.{MOST_SIZE}
use Rattle.items.specs.Multiset.{put_ascending, IsMultiset}
use Rattle.items.proofs.MultisetLemmas.{RisesFrom, RisesFrom-zero, IsNonDecreasing-from_rises, put_front, put_later}
use Rattle.std.proofs.lemmas.Bool.{cases_Bool, le-leb, lt-leb, eq-eqb, ne_eqb}
use Rattle.loads.proofs.DescendingLemmas.{IsDescending-head, IsDescending-tail, Contains-here, Contains-cons}
use Rattle.loads.specs.Descending.{IsDescending, put_descending, take_out}
use Rattle.loads.specs.Loads.{AreLoads, IsLowestBin}
use Rattle.loads.specs.Packed.{ArePositionBytes, IsPlaceOf, IsPlaceOfGrown, bytes_of, position_in}
use Rattle.loads.specs.Position.{AreItemsOf, position}
use Rattle.loads.specs.declared.position.Position.{Position}

-- items that ascend from a lowest size, each one of the sizes, with this total
pub record FollowOn (sizes : List ℕ) (low left : ℕ) (items : List ℕ) : Type 0 where
  pub rises : RisesFrom low items
  pub allowed : All (Contains sizes) items
  pub total : sum items ≡ left

pub FollowOn-all : (sizes loads items : List ℕ) (left : ℕ) → left ≡ sum loads → AreItemsOf sizes loads items ↔ FollowOn sizes 0 left items
FollowOn-all sizes loads items left e = (
  λ are. record { rises = RisesFrom-zero items are.ascending; allowed = are.allowed; total = are.total ∙ sym e },
  λ on. record { ascending = IsNonDecreasing-from_rises 0 items on.rises; allowed = on.allowed; total = on.total ∙ e },
)

pub FollowOn-more : (sizes : List ℕ) (low left x : ℕ) (xs : List ℕ) → low ≤ x → x ≤ left → Contains sizes x
    → FollowOn sizes low left (x ∷ xs) ↔ FollowOn sizes x (left - x) xs
FollowOn-more sizes low left x xs l h member = (
  λ on. record {
    rises = on.rises.1;
    allowed = All-tail (Contains sizes) x xs on.allowed;
    total = omega (arith, on.total, sum_by-cons (λ n. n) x xs);
  },
  λ on. record {
    rises = (l, on.rises);
    allowed = All-cons (Contains sizes) x xs member on.allowed;
    total = omega (arith, on.total, h, sum_by-cons (λ n. n) x xs);
  },
)

-- a number put in at its place
pub put_ascending-at : (x : ℕ) (xs : List ℕ) (place : ℕ) → IsPlaceOf x xs place → put_ascending x xs ≡ take place xs ++ x ∷ drop place xs
put_ascending-at x [] zero h = refl
put_ascending-at x (y ∷ ys) zero h = put_front x y ys (h.from (omega arith))
put_ascending-at x [] (suc place) h = absurd (omega (arith, h.within))
put_ascending-at x (y ∷ ys) (suc place) h =
    put_later x y ys (h.below 0 (omega arith))
    ∙ ap (λ zs. y ∷ zs) (put_ascending-at x ys place (record {
      within = omega (arith, h.within);
      below = λ k l. h.below (suc k) (omega (arith, l));
      from = λ l. h.from (omega (arith, l));
    }))

-- a list that has a number at a place, before it what another list has, and after it these
pub record HasPut (x : ℕ) (xs : List ℕ) (place : ℕ) (zs bytes : List ℕ) : Type 0 where
  pub here : get_or bytes place 0 ≡ x
  pub front : take place bytes ≡ take place xs
  pub rest : drop (suc place) bytes ≡ zs

HasPut-put : (x : ℕ) (xs : List ℕ) (place : ℕ) (zs : List ℕ) → place ≤ length xs → HasPut x xs place zs (take place xs ++ x ∷ zs)
HasPut-put x xs zero zs l = record { here = refl; front = refl; rest = refl }
HasPut-put x [] (suc place) zs l = absurd (omega arith)
HasPut-put x (y ∷ ys) (suc place) zs l =
    let h = HasPut-put x ys place zs (omega arith) in
    record { here = h.here; front = ap (λ us. y ∷ us) h.front; rest = h.rest }

pub HasPut-from : (x : ℕ) (xs : List ℕ) (place : ℕ) (zs bytes : List ℕ) → place ≤ length xs → bytes ≡ take place xs ++ x ∷ zs → HasPut x xs place zs bytes
HasPut-from x xs place zs bytes l e = subst (HasPut x xs place zs) (sym e) (HasPut-put x xs place zs l)

pub HasPut-is : (x : ℕ) (xs : List ℕ) (place : ℕ) (zs bytes : List ℕ) → place < length bytes → HasPut x xs place zs bytes → bytes ≡ take place xs ++ x ∷ zs
HasPut-is x xs place zs bytes l p =
    sym (take-append-drop place bytes)
    ∙ ap (λ us. take place bytes ++ us) (drop-cons bytes place 0 l)
    ∙ ap (λ us. us ++ get_or bytes place 0 ∷ drop (suc place) bytes) p.front
    ∙ ap (λ z. take place xs ++ z ∷ drop (suc place) bytes) p.here
    ∙ ap (λ us. take place xs ++ x ∷ us) p.rest

-- a load that grew, put into descending loads
put_low : (y g : ℕ) (ys : List ℕ) → IsDescending (y ∷ ys) → y ≤ g → put_descending g ys ≡ g ∷ ys
put_low y g [] d l = refl
put_low y g (z ∷ zs) d l = let e : leb z g ≡ true = le-leb z g (omega (arith, IsDescending-head y z zs d)) in rw e refl

pub put_grown : (load grown : ℕ) (xs : List ℕ) (place : ℕ) → IsDescending xs → load ≤ grown → IsPlaceOfGrown grown xs place
    → put_descending grown (take_out load xs) ≡ take place xs ++ grown ∷ take_out load (drop place xs)
put_grown load grown [] place d le p = absurd (omega (arith, p.within))
put_grown load grown (y ∷ ys) zero d le p = elim (cases_Bool (eqb load y)) [
  | inl e ↦ rw e (put_low y grown ys d p.from)
  | inr e ↦ let f : leb y grown ≡ true = le-leb y grown p.from in rw (e, f) refl
]
put_grown load grown (y ∷ ys) (suc place) d le p =
    let above : grown < y = p.above 0 (omega arith) in
    let e : eqb load y ≡ false = ne_eqb load y (λ h. absurd (omega (arith, above))) in
    let f : leb y grown ≡ false = lt-leb y grown above in
    rw (e, f) (ap (λ us. y ∷ us) (put_grown load grown ys place (IsDescending-tail y ys d) le (record {
      within = omega (arith, p.within);
      above = λ k l. p.above (suc k) (omega (arith, l));
      from = p.from;
    })))

-- a list with its first such number taken out, in two parts
pub take_out-parts : (x : ℕ) (ys : List ℕ) (k : ℕ) → IsLowestBin ys x k → take_out x ys ≡ take k ys ++ drop (suc k) ys
take_out-parts x [] k h = absurd (omega (arith, h.in_range))
take_out-parts x (y ∷ ys) zero h = let e : eqb x y ≡ true = eq-eqb x y (sym h.has_load) in rw e refl
take_out-parts x (y ∷ ys) (suc k) h =
    let n : x ≡ y → ⊥ = λ e. h.lowest 0 (omega arith) (sym e) in
    let rest : IsLowestBin ys x k = record {
      in_range = omega (arith, h.in_range);
      has_load = h.has_load;
      lowest = λ j l. h.lowest (suc j) (omega arith);
    } in
    let e : eqb x y ≡ false = ne_eqb x y n in
    rw e (ap (λ zs. y ∷ zs) (take_out-parts x ys k rest))

pub take_out-nothing : (x : ℕ) (ys : List ℕ) → (Contains ys x → ⊥) → take_out x ys ≡ ys
take_out-nothing x [] h = refl
take_out-nothing x (y ∷ ys) h =
    let e : eqb x y ≡ false = ne_eqb x y (λ s. h (subst (λ z. Contains (z ∷ ys) x) s (Contains-here x ys))) in
    rw e (ap (λ zs. y ∷ zs) (take_out-nothing x ys (λ m. h (Contains-cons x y ys m))))

pub parts_of : (k : ℕ) (ys zs : List ℕ) → k ≤ length ys → (take k (take k ys ++ zs) ≡ take k ys) × (drop k (take k ys ++ zs) ≡ zs)
parts_of zero ys zs l = (refl, refl)
parts_of (suc k) [] zs l = absurd (omega arith)
parts_of (suc k) (y ∷ ys) zs l = let h = parts_of k ys zs (omega arith) in (ap (λ us. y ∷ us) h.0, h.1)

-- loads sum to less than 65,536
pub loads_sum_small : (loads : List ℕ) → AreLoads loads → sum loads < 65536
loads_sum_small loads l =
    let each = All-weaker (λ x. x < 240) (λ x. x ≤ 239) (λ x h. omega (arith, h)) loads l.below in
    omega (arith, sum_by-le (λ x. x) 239 loads each, l.few)

-- the bytes of a position
pub position_in-bytes_of : (loads items : List ℕ) → position_in (bytes_of (position loads items)) ≡ position loads items
position_in-bytes_of loads items =
    ap (λ xs. position xs (drop (length loads) (loads ++ items))) (take-append-le (length loads) loads items (omega arith) ∙ take-length loads)
    ∙ ap (λ xs. position loads xs) (drop_at loads items (length loads) refl)

pub ArePositionBytes-bytes_of : (loads items : List ℕ) → AreLoads loads → IsMultiset MOST_SIZE items → ArePositionBytes (bytes_of (position loads items))
ArePositionBytes-bytes_of loads items l i =
    let e = position_in-bytes_of loads items in
    record {
      kept = ap bytes_of e;
      loads = subst (λ (p : Position). AreLoads p.loads) (sym e) l;
      items = subst (λ (p : Position). IsMultiset MOST_SIZE p.items) (sym e) i;
    }

pub length-bytes_of : (loads items : List ℕ) → length (bytes_of (position loads items)) ≡ 1 + length loads + length items
length-bytes_of loads items = omega (arith, length-append loads items)
