-- The sorted loads that assignments reach, and what one more item does to them.
use Rattle.std.proofs.Common.{◌≡◌, ◌↔◌, ℕ, zero, suc, ◌+◌, ◌-◌, ◌<◌, ◌≤◌, max, List, [], ◌∷◌, ◌++◌}
use Rattle.std.proofs.Common.{length, get_or, replicate, refl, sym, ap, ◌∙◌, subst, arith, inl, inr, ◌⊎◌, ⊎_elim}
use Rattle.std.specs.Prelude.{All, Contains}
use Rattle.std.proofs.lemmas.Bool.{cases_lt}
use Rattle.std.proofs.lemmas.List.{nil_from_length}
use Rattle.std.proofs.lemmas.List.Elements.{All-from_get_or, All-weaker, All-contains, Contains-get_or}
use Rattle.items.specs.Game.{GameNumbers, IsGame}
use Rattle.items.specs.Multiset.{IsSize, Same, count}
use Rattle.items.specs.Packable.{IsAssignment, Packable, IsRoom, bin_total}
use Rattle.items.proofs.MultisetLemmas.{length-Same}
use Rattle.items.proofs.SameLemmas.{Same-sym}
use Rattle.loads.specs.Loads.{IsLoads, loads_after}
use Rattle.loads.proofs.DescendingLemmas.{IsDescending-put, IsDescending-take_out}
use Rattle.loads.proofs.CountLemmas.{equal_from_Same, Contains-Same}
use Rattle.loads.proofs.LoadsLemmas.{Same-loads_after}
use Rattle.reachable_loads.specs.Reached.{totals, AreLoadsOf, IsReached, ItemsSent, sent, IsReachOf, FitOffline, AnyOf, HasRoom, IsAfter, IsLeast}
use Rattle.reach_planes.proofs.LoadLemmas.{descending_form, IsDescending-descending_form, Same-descending_form}
use Rattle.items.proofs.AssignmentLemmas.{IsAssignment-nil}
use Rattle.reach_planes.proofs.AssignmentLemmas.{length-totals, get_or-totals, totals-push, IsAssignment-push, PutsLast, puts_last, totals-nil}

-- an assignment has sorted loads
AreLoadsOf-descending_form : (game : GameNumbers) (items bins : List ℕ) → IsAssignment game items bins → AreLoadsOf game items bins (descending_form (totals game items bins))
AreLoadsOf-descending_form game items bins a = record {
  assigned = a;
  descending = IsDescending-descending_form (totals game items bins);
  same = Same-descending_form (totals game items bins);
}

-- the bin that has a load
pub record IsBinOf (game : GameNumbers) (items bins : List ℕ) (load : ℕ) : Type 0 where
  pub bin : ℕ
  pub of_game : bin < game.bins
  pub has : bin_total bin items bins ≡ load

bin_of_load : (game : GameNumbers) (items bins loads : List ℕ) (load : ℕ) → AreLoadsOf game items bins loads → Contains loads load → IsBinOf game items bins load
bin_of_load game items bins loads load h member =
    let c = Contains-Same load loads (totals game items bins) (Same-sym (totals game items bins) loads h.same) member in
    let l : c.0 < game.bins = omega (arith, c.1, length-totals game items bins) in
    record { bin = c.0; of_game = l; has = sym (get_or-totals game items bins c.0 load l) ∙ c.2 }

load_of_bin : (game : GameNumbers) (items bins loads : List ℕ) (bin : ℕ) → AreLoadsOf game items bins loads → bin < game.bins → Contains loads (bin_total bin items bins)
load_of_bin game items bins loads bin h l =
    Contains-Same (bin_total bin items bins) (totals game items bins) loads h.same
    (bin, omega (arith, l, length-totals game items bins), get_or-totals game items bins bin (bin_total bin items bins) l)

-- loads of an assignment are as many as the bins, and none is above the capacity
pub length-loads : (game : GameNumbers) (items bins loads : List ℕ) → AreLoadsOf game items bins loads → length loads ≡ game.bins
length-loads game items bins loads h = sym (length-Same (totals game items bins) loads h.same) ∙ length-totals game items bins

load-le-capacity : (game : GameNumbers) (items bins loads : List ℕ) (load : ℕ) → AreLoadsOf game items bins loads → Contains loads load → load ≤ game.capacity
load-le-capacity game items bins loads load h member =
    let b = bin_of_load game items bins loads load h member in omega (arith, b.has, h.assigned.fits b.bin b.of_game)

pub FitOffline-reached : (game : GameNumbers) (items loads : List ℕ) → IsReached game items loads → FitOffline game loads
FitOffline-reached game items loads r = record {
  one_each = length-loads game items r.0 loads r.1;
  descending = r.1.descending;
  fits = All-from_get_or (λ load. load ≤ game.capacity) loads 0 (λ k l. load-le-capacity game items r.0 loads (get_or loads k 0) r.1 (Contains-get_or loads k 0 l));
}

pub FitOffline-members : (game : GameNumbers) (items : List ℕ) (members : List (List ℕ)) → IsReachOf game items members → All (FitOffline game) members
FitOffline-members game items members r =
    All-from_get_or (FitOffline game) members [] (λ k l. FitOffline-reached game items (get_or members k []) ((r.exact (get_or members k [])).0 (Contains-get_or members k [] l)))

pub IsLoads-offline : (game : GameNumbers) (loads : List ℕ) → IsGame game → FitOffline game loads → IsLoads game loads
IsLoads-offline game loads g h = record {
  one_each = h.one_each;
  descending = h.descending;
  below_target = All-weaker (λ load. load ≤ game.capacity) (λ load. load < game.target) (λ load le. omega (arith, le, g.target.low)) loads h.fits;
}

-- the totals with the item in a bin are, but for their order, the loads after it
Same-after : (game : GameNumbers) (items bins loads : List ℕ) (size to : ℕ) → AreLoadsOf game items bins loads → to < game.bins
    → Same (totals game (items ++ size ∷ []) (bins ++ to ∷ [])) (loads_after loads (bin_total to items bins) size)
Same-after game items bins loads size to h l =
    subst (λ xs. Same xs (loads_after loads (bin_total to items bins) size)) (sym (totals-push game items bins size to h.assigned.one_each l))
    (Same-loads_after (totals game items bins) loads to (bin_total to items bins) size h.same (omega (arith, l, length-totals game items bins))
    (get_or-totals game items bins to 0 l))

AreLoadsOf-after : (game : GameNumbers) (items bins loads : List ℕ) (size to : ℕ) → AreLoadsOf game items bins loads → IsSize game.capacity size → to < game.bins
    → bin_total to items bins + size ≤ game.capacity → AreLoadsOf game (items ++ size ∷ []) (bins ++ to ∷ []) (loads_after loads (bin_total to items bins) size)
AreLoadsOf-after game items bins loads size to h s l r = record {
  assigned = IsAssignment-push game items bins size to h.assigned s l r;
  descending = IsDescending-put (bin_total to items bins + size) _ (IsDescending-take_out (bin_total to items bins) loads h.descending);
  same = Same-after game items bins loads size to h l;
}

-- the loads after an item are reached
IsReached-after : (game : GameNumbers) (items loads after : List ℕ) (size : ℕ) → IsSize game.capacity size → IsReached game items loads → IsAfter game.capacity size after loads
    → IsReached game (items ++ size ∷ []) after
IsReached-after game items loads after size s r h =
    let b = bin_of_load game items r.0 loads h.0 r.1 h.1 in
    let room : bin_total b.bin items r.0 + size ≤ game.capacity = omega (arith, b.has, h.2) in (
      r.0 ++ b.bin ∷ [],
      subst (AreLoadsOf game (items ++ size ∷ []) (r.0 ++ b.bin ∷ [])) (ap (λ load. loads_after loads load size) b.has ∙ sym h.3)
          (AreLoadsOf-after game items r.0 loads size b.bin r.1 s b.of_game room),
    )

-- what was reached before the last item came
pub record CameFrom (game : GameNumbers) (items : List ℕ) (size : ℕ) (after : List ℕ) : Type 0 where
  pub before : List ℕ
  pub reached : IsReached game items before
  pub is_after : IsAfter game.capacity size after before

came_by : (game : GameNumbers) (items after bins : List ℕ) (size : ℕ) → PutsLast game items size bins → AreLoadsOf game (items ++ size ∷ []) bins after
    → CameFrom game items size after
came_by game items after bins size p h =
    let before = descending_form (totals game items p.before) in
    let was : AreLoadsOf game items p.before before = AreLoadsOf-descending_form game items p.before p.assigned in
    let load : ℕ = bin_total p.to items p.before in
    let now : AreLoadsOf game (items ++ size ∷ []) (p.before ++ p.to ∷ [])
    (loads_after before load size) = AreLoadsOf-after game items p.before before size p.to was p.of_game p.in_game p.has_room in
    let h' : AreLoadsOf game (items ++ size ∷ []) (p.before ++ p.to ∷ []) after = subst (λ b. AreLoadsOf game (items ++ size ∷ []) b after) p.is h in
    record {
      before = before;
      reached = (p.before, was);
      is_after = (
        load,
        load_of_bin game items p.before before p.to was p.in_game,
        p.has_room,
        equal_from_Same after (loads_after before load size) h.descending now.descending (λ x. sym (h'.same x) ∙ now.same x),
      );
    }

came_from : (game : GameNumbers) (items after : List ℕ) (size : ℕ) → IsReached game (items ++ size ∷ []) after → CameFrom game items size after
came_from game items after size r = came_by game items after r.0 size (puts_last game items size r.0 r.1.assigned) r.1

-- what holds of some list holds of a member
pub AnyOf-member : (P : List ℕ → Type 0) (xss : List (List ℕ)) → AnyOf P xss → (xs : List ℕ) × Contains xss xs × P xs
AnyOf-member P [] h = absurd h
AnyOf-member P (xs ∷ xss) h = ⊎_elim (λ p. (xs, (0, omega arith, refl), p)) (λ q. let r = AnyOf-member P xss q in (r.0, (suc r.1.0, omega (arith, r.1.1), r.1.2), r.2)) h

pub AnyOf-from_member : (P : List ℕ → Type 0) (xss : List (List ℕ)) (xs : List ℕ) → Contains xss xs → P xs → AnyOf P xss
AnyOf-from_member P [] xs h p = absurd (omega (arith, h.1))
AnyOf-from_member P (ys ∷ xss) xs (zero, l, e) p = inl (subst P (sym e) p)
AnyOf-from_member P (ys ∷ xss) xs (suc k, l, e) p = inr (AnyOf-from_member P xss xs (k, omega arith, e) p)

-- the members after one more item
pub IsReachOf-push : (game : GameNumbers) (items : List ℕ) (size : ℕ) (members after : List (List ℕ)) → IsReachOf game items members → IsSize game.capacity size
    → ((loads : List ℕ) → Contains after loads ↔ AnyOf (IsAfter game.capacity size loads) members) → IsReachOf game (items ++ size ∷ []) after
IsReachOf-push game items size members after r s h = record {
  exact = λ loads. (
    λ c. let a = AnyOf-member (IsAfter game.capacity size loads) members ((h loads).0 c) in IsReached-after game items a.0 loads size s ((r.exact a.0).0 a.1) a.2,
    λ q. let f = came_from game items loads size q in (h loads).1 (AnyOf-from_member (IsAfter game.capacity size loads) members f.before
        ((r.exact f.before).1 f.reached) f.is_after),
  );
}

replicate_at : (n k z : ℕ) → get_or (replicate n z) k z ≡ z
replicate_at zero k z = refl
replicate_at (suc n) zero z = refl
replicate_at (suc n) (suc k) z = replicate_at n k z

totals_of_none : (game : GameNumbers) (bins : List ℕ) → length bins ≡ 0 → totals game [] bins ≡ replicate game.bins 0
totals_of_none game bins e = ap (totals game []) (nil_from_length bins e) ∙ totals-nil game

-- the one member before the first item
pub IsReachOf-nil : (game : GameNumbers) (members : List (List ℕ)) → ((loads : List ℕ) → Contains members loads ↔ (loads ≡ replicate game.bins 0)) → IsReachOf game [] members
IsReachOf-nil game members h =
    let zeros : AreLoadsOf game [] [] (replicate game.bins 0) = record {
      assigned = IsAssignment-nil game;
      descending = λ k l. omega (arith, replicate_at game.bins (k + 1) 0);
      same = λ x. ap (count x) (totals-nil game);
    } in
    record {
      exact = λ loads. (
        λ c. ([], subst (AreLoadsOf game [] []) (sym ((h loads).0 c)) zeros),
        λ q. (h loads).1 (equal_from_Same loads (replicate game.bins 0) q.1.descending zeros.descending
            (λ x. sym (q.1.same x) ∙ ap (count x) (totals_of_none game q.0 q.1.assigned.one_each))),
      );
    }

-- the items fit exactly where there is a member
pub Packable-from_member : (game : GameNumbers) (items : List ℕ) (members : List (List ℕ)) → IsReachOf game items members → 0 < length members → Packable game items
Packable-from_member game items members r l =
    let q = (r.exact (get_or members 0 [])).0 (Contains-get_or members 0 [] l) in (q.0, q.1.assigned)

pub member_from_Packable : (game : GameNumbers) (items : List ℕ) (members : List (List ℕ)) → IsReachOf game items members → Packable game items → 0 < length members
member_from_Packable game items members r p =
    let c = (r.exact (descending_form (totals game items p.0))).1 (p.0, AreLoadsOf-descending_form game items p.0 p.1) in
    omega (arith, c.1)

-- one more item fits exactly where some member has room for it
pub Packable-from_room : (game : GameNumbers) (items : List ℕ) (members : List (List ℕ)) (size : ℕ) → IsReachOf game items members → IsSize game.capacity size
    → AnyOf (HasRoom game.capacity size) members → Packable game (items ++ size ∷ [])
Packable-from_room game items members size r s h =
    let a = AnyOf-member (HasRoom game.capacity size) members h in
    let q = IsReached-after game items a.0 (loads_after a.0 a.2.0 size) size s ((r.exact a.0).0 a.1) (a.2.0, a.2.1, a.2.2, refl) in
    (q.0, q.1.assigned)

pub room_from_Packable : (game : GameNumbers) (items : List ℕ) (members : List (List ℕ)) (size : ℕ) → IsReachOf game items members → Packable game (items ++ size ∷ [])
    → IsSize game.capacity size × AnyOf (HasRoom game.capacity size) members
room_from_Packable game items members size r p =
    let last = puts_last game items size p.0 p.1 in
    let f = came_by game items (descending_form (totals game (items ++ size ∷ []) p.0)) p.0 size last (AreLoadsOf-descending_form game (items ++ size ∷ []) p.0 p.1) in
    (last.of_game, AnyOf-from_member (HasRoom game.capacity size) members f.before ((r.exact f.before).1 f.reached) (f.is_after.0, f.is_after.1, f.is_after.2))

-- what a list of members has room for, told by the greatest size
abbrev pub TellsRoom : ℕ → ℕ → List (List ℕ) → List (List ℕ) → Type 0
TellsRoom capacity room rest members = (size : ℕ) → 1 ≤ size → ((size ≤ room) ⊎ AnyOf (HasRoom capacity size) rest) ↔ AnyOf (HasRoom capacity size) members

pub TellsRoom-start : (capacity : ℕ) (members : List (List ℕ)) → TellsRoom capacity 0 members members
TellsRoom-start capacity members size l = (λ h. ⊎_elim (λ le. absurd (omega arith)) (λ a. a) h, λ a. inr a)

pub TellsRoom-more : (capacity room least : ℕ) (loads : List ℕ) (whole rest members : List (List ℕ)) → whole ≡ loads ∷ rest → IsLeast loads least
    → TellsRoom capacity room whole members → TellsRoom capacity (max room (capacity - least)) rest members
TellsRoom-more capacity room least loads whole rest members e least_of t size l =
    let t' : TellsRoom capacity room (loads ∷ rest) members = subst (λ xss. TellsRoom capacity room xss members) e t in (
      λ h. (t' size l).0 (⊎_elim (λ le. ⊎_elim (λ lt. inr (inl (least, least_of.member, omega arith))) (λ ge. inl (omega arith)) (cases_lt room size)) (λ a. inr (inr a)) h),
      λ a. ⊎_elim (λ le. inl (omega arith)) (λ o. ⊎_elim (λ here. let bound = All-contains
          (λ load. least ≤ load) loads here.0 least_of.bound here.1 in inl (omega (arith, here.2, bound))) (λ later. inr later) o) ((t' size l).1 a),
    )

-- the sizes that may come next are those up to a room
abbrev pub AreSizesThatFit : GameNumbers → List ℕ → ℕ → Type 0
AreSizesThatFit game items room = (size : ℕ) → Packable game (items ++ size ∷ []) ↔ (1 ≤ size) × (size ≤ room)

-- the room that was told is the room
pub law_of_room : (game : GameNumbers) (items : List ℕ) (members : List (List ℕ)) (room : ℕ) → IsReachOf game items members → room ≤ game.capacity
    → TellsRoom game.capacity room [] members → (size : ℕ) → Packable game (items ++ size ∷ []) ↔ (1 ≤ size) × (size ≤ room)
law_of_room game items members room r le t size = (
  λ p. let q = room_from_Packable game items members size r p in (q.0.low, ⊎_elim (λ h. h) (λ none. absurd none) ((t size q.0.low).1 q.1)),
  λ h. Packable-from_room game items members size r (record { low = h.0; high = omega (arith, h.1, le) }) ((t size h.0).0 (inl h.1)),
)

pub IsRoom-from_law : (game : GameNumbers) (items : List ℕ) (room : ℕ) → room ≤ game.capacity → ((size : ℕ) → Packable game (items ++ size ∷ []) ↔ (1 ≤ size) × (size ≤ room))
    → IsRoom game items room
IsRoom-from_law game items room le law = record {
  within = le;
  may_come = λ some. (law room).1 (some, omega arith);
  greatest = λ size above within p. let h = (law size).0 p in omega (arith, h.1, above);
}

pub no_member : (members : List (List ℕ)) (loads : List ℕ) → members ≡ [] → Contains members loads → ⊥
no_member members loads e h = omega (arith, h.1, ap length e)

pub positive_length : (members : List (List ℕ)) → (length members ≡ 0 → ⊥) → 0 < length members
positive_length [] h = absurd (h refl)
positive_length (xs ∷ xss) h = omega arith

-- the set of a value, by what clauses see of the value
pub IsReachOf-seen : (game : GameNumbers) (items : List ℕ) (reach : ItemsSent) (members : List (List ℕ)) → sent game items ≡ reach → IsReachOf game items members
    → IsReachOf reach.game reach.items members
IsReachOf-seen game items reach members e r = subst (λ (seen : ItemsSent). IsReachOf seen.game seen.items members) e r

-- the least load is none above the capacity
pub least-le_capacity : (game : GameNumbers) (loads : List ℕ) (least : ℕ) → FitOffline game loads → IsLeast loads least → least ≤ game.capacity
least-le_capacity game loads least h l = All-contains (λ load. load ≤ game.capacity) loads least h.fits l.member

-- what the loop over the members tells at its end
pub record IsTold (reach : ItemsSent) (room : ℕ) : Type 0 where
  pub within : room ≤ reach.game.capacity
  pub law : (size : ℕ) → Packable reach.game (reach.items ++ size ∷ []) ↔ (1 ≤ size) × (size ≤ room)

pub IsTold-end : (game : GameNumbers) (items : List ℕ) (reach : ItemsSent) (members start rest : List (List ℕ)) (room capacity : ℕ) → sent game items ≡ reach
    → IsReachOf game items members → capacity ≡ game.capacity → start ≡ members → rest ≡ [] → room ≤ capacity → TellsRoom capacity room rest start → IsTold reach room
IsTold-end game items reach members start rest room capacity seen r g s e le t =
    let t' : TellsRoom game.capacity room [] members = subst (λ c. TellsRoom c room [] members) g (subst
    (λ xss. TellsRoom capacity room xss members) e (subst (λ xss. TellsRoom capacity room rest xss) s t)) in
    subst (λ (x : ItemsSent). IsTold x room) seen (record { within = omega (arith, le, g); law = law_of_room game items members room r (omega (arith, le, g)) t' })

-- what was put in so far and what the rest of the members gives make up what all of them give
abbrev pub HasAfter : ℕ → ℕ → List (List ℕ) → List (List ℕ) → List (List ℕ) → Type 0
HasAfter capacity size made rest members = (loads : List ℕ) → (Contains made loads ⊎ AnyOf (IsAfter capacity size loads) rest) ↔ AnyOf (IsAfter capacity size loads) members

pub HasAfter-start : (capacity size : ℕ) (made members : List (List ℕ)) → made ≡ [] → HasAfter capacity size made members members
HasAfter-start capacity size made members e loads = (λ h. ⊎_elim (λ c. absurd (no_member made loads e c)) (λ a. a) h, λ a. inr a)

pub HasAfter-more : (capacity size : ℕ) (before : List ℕ) (made more whole rest members : List (List ℕ)) → whole ≡ before ∷ rest
    → ((loads : List ℕ) → Contains more loads ↔ (Contains made loads ⊎ IsAfter capacity size loads before)) → HasAfter capacity size made whole members
    → HasAfter capacity size more rest members
HasAfter-more capacity size before made more whole rest members e put h loads =
    let h' : HasAfter capacity size made (before ∷ rest) members = subst (λ xss. HasAfter capacity size made xss members) e h in (
      λ s. (h' loads).0 (⊎_elim (λ c. ⊎_elim (λ m. inl m) (λ a. inr (inl a)) ((put loads).0 c)) (λ a. inr (inr a)) s),
      λ a. ⊎_elim (λ m. inl ((put loads).1 (inl m))) (λ o. ⊎_elim (λ p. inl ((put loads).1 (inr p))) (λ q. inr q) o) ((h' loads).1 a),
    )

pub HasAfter-end : (capacity size : ℕ) (made rest members : List (List ℕ)) → rest ≡ [] → HasAfter capacity size made rest members → (loads : List ℕ) → Contains made loads
    ↔ AnyOf (IsAfter capacity size loads) members
HasAfter-end capacity size made rest members e h loads =
    let h' : HasAfter capacity size made [] members = subst (λ xss. HasAfter capacity size made xss members) e h in
    (λ c. (h' loads).0 (inl c), λ a. ⊎_elim (λ c. c) (λ none. absurd none) ((h' loads).1 a))

-- items that do not fit leave no room
pub no_room : (reach : ItemsSent) (room : ℕ) → ((size : ℕ) → Packable reach.game (reach.items ++ size ∷ []) ↔ (1 ≤ size) × (size ≤ room)) → (Packable reach.game reach.items → ⊥)
    → room ≡ 0
no_room reach room law h = elim (cases_lt 0 room) [
  | inl l ↦
      let p = (law room).1 (l, omega arith) in
      let last = puts_last reach.game reach.items room p.0 p.1 in absurd (h (last.before, last.assigned))
  | inr l ↦ omega arith
]
