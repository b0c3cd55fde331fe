-- A legal strategy of the adversary is legal at a lower target.
use Rattle.std.proofs.Common.{◌≡◌, ℕ, zero, suc, ◌+◌, ◌-◌, ◌/◌, ◌<◌, ◌≤◌, Bool, IsTrue, true, false, Option, Some, None, List, [], ◌∷◌, ◌++◌, length, map, take}
use Rattle.std.proofs.Common.{add-one, ⊎_elim, get_or, cond, eqb, leb, ltb, refl, sym, ap, ◌∙◌, subst, arith}
use Rattle.std.specs.Prelude.{All, slice_get, count_by, option_map}
use Rattle.std.specs.List.{filter_map, cons_option, range_with_len}
use Rattle.std.specs.Option.{option_and_then}
use Rattle.std.proofs.Common.{div-mul-le_self, le_trans, le-div_iff_mul-le}
use Rattle.std.proofs.lemmas.Bool.{cases_Bool, cases_lt, cond-true, cond-false, eqb-true, leb-true, leb-false, lt-ltb, ltb-true, true≢false}
use Rattle.std.proofs.lemmas.List.{length-append}
use Rattle.std.proofs.lemmas.List.Elements.{All-map, All-weaker, filter_map-append}
use Rattle.std.proofs.lemmas.List.Sums.{AllPass-from_list_all, list_all-from_AllPass, sum_by-cons, sum_by_more}
use Rattle.std.proofs.lemmas.Option.{none-some, same_Some, slice_get_within, slice_get-get_or, slice_get-map}
use Rattle.std.proofs.lemmas.Simd.{map-map}
use Rattle.items.specs.Game.{GameNumbers, IsGame}
use Rattle.items.specs.Multiset.{sizes_of}
use Rattle.items.specs.Packable.{IsPacking}
use Rattle.items.proofs.ListLemmas.{range_push, slice_get-front, slice_get-push}
use Rattle.items.proofs.SizesLemmas.{size_from_Contains}
use Rattle.loads.specs.After.{after}
use Rattle.loads.specs.Loads.{IsLoads}
use Rattle.loads.specs.Position.{IsEmptyPosition, StandsAt, position}
use Rattle.loads.specs.declared.position.Position.{Position}
use Rattle.loads.proofs.DescendingLemmas.{All-put, All-take_out}
use Rattle.strategy_text.specs.declared.node.AdvNode.{AdvNode}
use Rattle.strategy_text.specs.declared.node.Format.{Format}
use Rattle.strategy_text.specs.declared.node.Format.TheVariants.{One, Two}
use Rattle.strategy_text.specs.declared.node.Placement.{Placement}
use Rattle.strategy_text.specs.declared.node.Step.{Step}
use Rattle.strategy_text.specs.declared.node.Step.TheVariants.{Send, Burst}
use Rattle.strategy_text.specs.declared.node.Then.{Then}
use Rattle.strategy_text.specs.declared.node.Then.TheVariants.{Over, To}
use Rattle.adversary_graph.specs.Judging.{node_at}
use Rattle.adversary_graph.specs.Legal.{IsLegal}
use Rattle.adversary_graph.specs.Nodes.{IsOfFormat, position_of, sent_items}
use Rattle.adversary_graph.specs.Play.{end_packing}
use Rattle.adversary_graph.specs.Renamed.{renamed_then}
use Rattle.adversary_graph.specs.Rules.{IsOver, IsOverAtTarget, IsPacked, LeadsTo, MeetsRules, most_below_target}
use Rattle.adversary_graph.proofs.EndLemmas.{end_packing_holds}
use Rattle.adversary_graph.proofs.WonLemmas.{earlier_node}
use Rattle.algorithm_graph.proofs.PoolLemmas.{slice_get-take-within}
use Rattle.strategy_transfer.specs.Weakened.{all_over, is_over, kept_at, kept_node, new_number, packing_for, stays, weakened_adversary, weakened_node}
use Rattle.strategy_transfer.specs.Weakened.{weakened_pack, weakened_placement, weakened_step, with_target}
use Rattle.strategy_transfer.proofs.LegalEnds.{legal_ends, legal_root}

-- ---- lists

-- the element at the end of a list
last_of : {X : Type 0} (xs : List X) (y : X) → slice_get (xs ++ y ∷ []) (length xs) ≡ Some y
last_of [] y = refl
last_of (x ∷ xs) y = last_of xs y

filter_map_next : {Y : Type 0} (h : ℕ → Option Y) (n : ℕ) → filter_map h (range_with_len 0 (suc n)) ≡ filter_map h (range_with_len 0 n) ++ cons_option (h n) []
filter_map_next h n =
    ap (filter_map h) (range_push 0 n ∙ ap (λ (k : ℕ). range_with_len 0 n ++ k ∷ []) (omega arith)) ∙ filter_map-append h (range_with_len 0 n) (n ∷ [])

pub filter_map_push : {Y : Type 0} (h : ℕ → Option Y) (n : ℕ) → filter_map h (range_with_len 0 (n + 1)) ≡ filter_map h (range_with_len 0 n) ++ cons_option (h n) []
filter_map_push h n = ap (λ k. filter_map h (range_with_len 0 k)) (add-one n) ∙ filter_map_next h n

-- ---- which nodes stay

module _ (target : ℕ) (nodes : List AdvNode) where
  pub number_more : (k : ℕ) (node : AdvNode) → slice_get nodes k ≡ Some node
      → new_number target nodes (k + 1) ≡ new_number target nodes k + cond (stays target node) 1 0
  number_more k node e =
      let within = slice_get_within nodes k node e in
      let same : get_or nodes k node ≡ node = same_Some (get_or nodes k node) node (sym (slice_get-get_or nodes k node within) ∙ e) in
      sum_by_more (λ (n : AdvNode). cond (stays target n) 1 0) nodes k node within
      ∙ ap (λ (n : AdvNode). new_number target nodes k + cond (stays target n) 1 0) same

  number_next : (k : ℕ) (node : AdvNode) → slice_get nodes k ≡ Some node
      → new_number target nodes (suc k) ≡ new_number target nodes k + cond (stays target node) 1 0
  number_next k node e = ap (new_number target nodes) (sym (add-one k)) ∙ number_more k node e

  pub number_within : (k : ℕ) → new_number target nodes k ≤ length nodes
  number_within k = by nodes k
    where
      by : (xs : List AdvNode) (n : ℕ) → count_by (stays target) (take n xs) ≤ length xs
      by xs zero = omega arith
      by [] (suc n) = omega arith
      by (x ∷ xs) (suc n) =
          let one = ⊎_elim {C = cond (stays target x) 1 0 ≤ 1} (λ e. rw e (omega arith)) (λ e. rw e (omega arith)) (cases_Bool (stays target x)) in
          omega (arith, by xs n, one, sum_by-cons (λ (m : AdvNode). cond (stays target m) 1 0) x (take n xs))

  pub number_up_to : (k : ℕ) → new_number target nodes k ≤ k
  number_up_to k = by nodes k
    where
      by : (xs : List AdvNode) (n : ℕ) → count_by (stays target) (take n xs) ≤ n
      by xs zero = omega arith
      by [] (suc n) = omega arith
      by (x ∷ xs) (suc n) =
          let one = ⊎_elim {C = cond (stays target x) 1 0 ≤ 1} (λ e. rw e (omega arith)) (λ e. rw e (omega arith)) (cases_Bool (stays target x)) in
          omega (arith, by xs n, one, sum_by-cons (λ (m : AdvNode). cond (stays target m) 1 0) x (take n xs))

  number_rises : (i k : ℕ) → i ≤ k → new_number target nodes i ≤ new_number target nodes k
  number_rises i k l = by nodes i k l
    where
      by : (xs : List AdvNode) (i k : ℕ) → i ≤ k → count_by (stays target) (take i xs) ≤ count_by (stays target) (take k xs)
      by xs zero k l = omega arith
      by [] (suc i) k l = omega arith
      by (x ∷ xs) (suc i) zero l = absurd (omega (arith, l))
      by (x ∷ xs) (suc i) (suc k) l =
          omega (
            arith,
            by xs i k (omega (arith, l)),
            sum_by-cons (λ (m : AdvNode). cond (stays target m) 1 0) x (take i xs),
            sum_by-cons (λ (m : AdvNode). cond (stays target m) 1 0) x (take k xs),
          )

  -- a node that stays has another number than those after it
  number_above : (i k : ℕ) (node : AdvNode) → slice_get nodes i ≡ Some node → stays target node ≡ true → i < k
      → new_number target nodes i < new_number target nodes k
  number_above i k node e s l =
      omega (arith, number_more i node e, cond-true {A = ℕ} (stays target node) 1 0 s, number_rises (i + 1) k (omega (arith, l)))

  pub stays_from : (node : AdvNode) → All (λ load. load < target) node.loads → stays target node ≡ true
  stays_from node below =
      list_all-from_AllPass (λ load. ltb load target) node.loads (All-weaker (λ load. load < target) (λ load. ltb load target ≡ true) (λ load l. lt-ltb load target l)
      node.loads below)

  below_from : (node : AdvNode) → stays target node ≡ true → All (λ load. load < target) node.loads
  below_from node s =
      All-weaker (λ load. ltb load target ≡ true) (λ load. load < target) (λ load t. ltb-true load target t) node.loads
      (AllPass-from_list_all (λ load. ltb load target) node.loads s)

-- ---- the nodes that stay, at their new numbers

module _ (game : GameNumbers) (target : ℕ) (nodes : List AdvNode) where
  abbrev kept_as : ℕ → AdvNode → AdvNode
  kept_as number node = weakened_node game target (new_number target nodes) (end_packing nodes (number + 1) number) node

  abbrev first_kept : ℕ → List AdvNode
  first_kept n = filter_map (kept_at game target nodes) (range_with_len 0 n)

  -- where a node comes from
  pub record IsKept (n place : ℕ) (new : AdvNode) : Type 0 where
    pub number : ℕ
    pub node : AdvNode
    pub within : number < n
    pub there : slice_get nodes number ≡ Some node
    pub stays : stays target node ≡ true
    pub moved : new_number target nodes number ≡ place
    pub is : new ≡ kept_as number node

  kept_when : (number : ℕ) (node : AdvNode) → slice_get nodes number ≡ Some node → stays target node ≡ true → kept_at game target nodes number ≡ Some (kept_as number node)
  kept_when number node e s =
      ap (option_and_then (kept_node game target (new_number target nodes) (end_packing nodes (number + 1) number))) e
      ∙ cond-true (stays target node) (Some (kept_as number node)) None s

  left_out : (number : ℕ) (node : AdvNode) → slice_get nodes number ≡ Some node → stays target node ≡ false → kept_at game target nodes number ≡ None
  left_out number node e s =
      ap (option_and_then (kept_node game target (new_number target nodes) (end_packing nodes (number + 1) number))) e
      ∙ cond-false (stays target node) (Some (kept_as number node)) None s

  kept_push : (n : ℕ) (node : AdvNode) → slice_get nodes n ≡ Some node → stays target node ≡ true → first_kept (suc n) ≡ first_kept n ++ kept_as n node ∷ []
  kept_push n node e s =
      filter_map_next (kept_at game target nodes) n ∙ ap (λ o. first_kept n ++ cons_option o []) (kept_when n node e s)

  append_none : (xs : List AdvNode) → xs ++ [] ≡ xs
  append_none [] = refl
  append_none (x ∷ xs) = ap (λ ys. x ∷ ys) (append_none xs)

  kept_same : (n : ℕ) (node : AdvNode) → slice_get nodes n ≡ Some node → stays target node ≡ false → first_kept (suc n) ≡ first_kept n
  kept_same n node e s =
      filter_map_next (kept_at game target nodes) n ∙ ap (λ o. first_kept n ++ cons_option o []) (left_out n node e s) ∙ append_none (first_kept n)

  node_of : (n : ℕ) → n < length nodes → (node : AdvNode) × (slice_get nodes n ≡ Some node)
  node_of n l = by nodes n l
    where
      by : (xs : List AdvNode) (k : ℕ) → k < length xs → (node : AdvNode) × (slice_get xs k ≡ Some node)
      by [] k l = absurd (omega (arith, l))
      by (x ∷ xs) zero l = (x, refl)
      by (x ∷ xs) (suc k) l = by xs k (omega (arith, l))

  pub length_kept : (n : ℕ) → n ≤ length nodes → length (first_kept n) ≡ new_number target nodes n
  length_kept zero l = refl
  length_kept (suc n) l =
      let found = node_of n (omega (arith, l)) in
      let before = length_kept n (omega (arith, l)) in
      let more = number_next target nodes n found.0 found.1 in
      ⊎_elim
      (λ s.
      let push : length (first_kept (suc n)) ≡ length (first_kept n) + 1 =
      ap length (kept_push n found.0 found.1 s) ∙ length-append (first_kept n) (kept_as n found.0 ∷ []) in
      omega (arith, push, before, more, cond-true {A = ℕ} (stays target found.0) 1 0 s))
      (λ s.
      let same : length (first_kept (suc n)) ≡ length (first_kept n) = ap length (kept_same n found.0 found.1 s) in
      omega (arith, same, before, more, cond-false {A = ℕ} (stays target found.0) 1 0 s))
      (cases_Bool (stays target found.0))

  kept_further : (n place : ℕ) (new : AdvNode) → IsKept n place new → IsKept (suc n) place new
  kept_further n place new k =
      record { number = k.number; node = k.node; within = omega (arith, k.within); there = k.there; stays = k.stays; moved = k.moved; is = k.is }

  -- each node comes from one that stays
  pub kept_from : (n place : ℕ) (new : AdvNode) → n ≤ length nodes → slice_get (first_kept n) place ≡ Some new → IsKept n place new
  kept_from zero place new l e = absurd (none-some new e)
  kept_from (suc n) place new l e =
      let found = node_of n (omega (arith, l)) in
      ⊎_elim
      (λ s.
      let push = kept_push n found.0 found.1 s in
      ⊎_elim
      (λ here. kept_further n place new (kept_from n place new (omega (arith, l)) here))
      (λ last. record {
        number = n;
        node = found.0;
        within = omega arith;
        there = found.1;
        stays = s;
        moved = sym (length_kept n (omega (arith, l))) ∙ sym last.0;
        is = sym last.1;
      })
      (slice_get-push (first_kept n) (kept_as n found.0) place new (subst (λ (xs : List AdvNode). slice_get xs place ≡ Some new) push e)))
      (λ s. kept_further n place new (kept_from n place new (omega (arith, l)) (subst (λ (xs : List AdvNode). slice_get xs place ≡ Some new) (kept_same n found.0 found.1 s) e)))
      (cases_Bool (stays target found.0))

  -- each node that stays is there
  pub kept_there : (n number : ℕ) (node : AdvNode) → n ≤ length nodes → number < n → slice_get nodes number ≡ Some node → stays target node ≡ true
      → slice_get (first_kept n) (new_number target nodes number) ≡ Some (kept_as number node)
  kept_there zero number node l within e s = absurd (omega (arith, within))
  kept_there (suc n) number node l within e s =
      let found = node_of n (omega (arith, l)) in
      ⊎_elim
      (λ below.
      let before = kept_there n number node (omega (arith, l)) below e s in
      subst (λ (xs : List AdvNode). slice_get xs (new_number target nodes number) ≡ Some (kept_as number node)) (sym (filter_map_next (kept_at game target nodes) n))
      (slice_get-front (first_kept n) (cons_option (kept_at game target nodes n) []) (new_number target nodes number) (kept_as number node) before))
      (λ above.
      let is : number ≡ n = omega (arith, above, within) in
      let here : slice_get nodes n ≡ Some node = ap (slice_get nodes) (sym is) ∙ e in
      let long : length (first_kept n) ≡ new_number target nodes number = length_kept n (omega (arith, l)) ∙ ap (new_number target nodes) (sym is) in
      subst (λ (xs : List AdvNode). slice_get xs (new_number target nodes number) ≡ Some (kept_as number node)) (sym (kept_push n node here s))
      (subst (λ k. slice_get (first_kept n ++ kept_as n node ∷ []) k ≡ Some (kept_as number node)) long
      (subst (λ k. slice_get (first_kept n ++ kept_as n node ∷ []) (length (first_kept n)) ≡ Some (kept_as k node)) (sym is)
      (last_of (first_kept n) (kept_as n node)))))
      (cases_lt number n)

-- ---- the rules of a node at a lower target

-- a packing does not speak of the target
packing_at : (game : GameNumbers) (target : ℕ) (bins : List (List ℕ)) (items : List ℕ) → IsPacking game bins items → IsPacking (with_target target game) bins items
packing_at game target bins items p = record { one_each = p.one_each; fits = p.fits; together = p.together }

lower_quotient : (a b k : ℕ) → 0 < k → a ≤ b → a / k ≤ b / k
lower_quotient a b k some l = (le-div_iff_mul-le {k = k} {x = a / k} {y = b} some).1 (le_trans (div-mul-le_self a k) l)

-- fewer items fit below the target
most_lower : (game : GameNumbers) (target size : ℕ) (loads : List ℕ) → 1 ≤ size → target ≤ game.target
    → most_below_target (with_target target game) size loads ≤ most_below_target game size loads
most_lower game target size [] some l = omega arith
most_lower game target size (load ∷ loads) some l =
    let here : (target - 1 - load) / size ≤ (game.target - 1 - load) / size =
    lower_quotient (target - 1 - load) (game.target - 1 - load) size some (omega (arith, l)) in
    omega (
      arith,
      here,
      most_lower game target size loads some l,
      sum_by-cons (λ x. (target - 1 - x) / size) load loads,
      sum_by-cons (λ x. (game.target - 1 - x) / size) load loads,
    )

module _ (target : ℕ) (name : ℕ → ℕ) (size : ℕ) where
  over_stays : (placement : Placement) → IsOver placement.next → IsOver (weakened_placement target name size placement).next
  over_stays placement over =
      ⊎_elim (λ t. rw t tt) (λ f. rw f (by placement.next over)) (cases_Bool (leb target (placement.load + size)))
    where
      by : (next : Then) → IsOver next → IsOver (renamed_then name next)
      by Over over = tt
      by (To child) over = over

over_is : (next : Then) → is_over next ≡ true → IsOver next
over_is Over e = tt
over_is (To child) e = absurd (true≢false (sym e))

is_over_from : (next : Then) → IsOver next → is_over next ≡ true
is_over_from Over h = refl
is_over_from (To child) h = absurd h

all_over_is : (placements : List Placement) → all_over placements ≡ true → All (λ placement. IsOver placement.next) placements
all_over_is placements e =
    All-weaker (λ (p : Placement). is_over p.next ≡ true) (λ (p : Placement). IsOver p.next) (λ p t. over_is p.next t) placements
    (AllPass-from_list_all (λ (p : Placement). is_over p.next) placements e)

all_over_from : (placements : List Placement) → All (λ placement. IsOver placement.next) placements → all_over placements ≡ true
all_over_from placements all =
    list_all-from_AllPass (λ (p : Placement). is_over p.next) placements
    (All-weaker (λ (p : Placement). IsOver p.next) (λ (p : Placement). is_over p.next ≡ true) (λ p h. is_over_from p.next h) placements all)

-- a packing that is there stays
packed_own : (game : GameNumbers) (target : ℕ) (format : Format) (loads items : List ℕ) (size : ℕ) (bins : List (List ℕ)) (placements news : List Placement)
    → (All (λ placement. IsOver placement.next) placements → All (λ placement. IsOver placement.next) news)
    → IsPacked game format (node_at (position loads items) (Send size (Some bins) placements))
    → IsPacked (with_target target game) format (node_at (position loads items) (Send size (Some bins) news))
packed_own game target One loads items size bins placements news over packed =
    record { shown = (λ h. tt, λ h. tt); holds = packing_at game target bins (items ++ size ∷ []) packed.holds }
packed_own game target Two loads items size bins placements news over packed =
    record { shown = (λ h. over (packed.shown.0 tt), λ h. tt); holds = packing_at game target bins (items ++ size ∷ []) packed.holds }

-- a packing that is made
packed_new : (game : GameNumbers) (target : ℕ) (format : Format) (loads items : List ℕ) (size : ℕ) (end : Option (List (List ℕ))) (placements news : List Placement)
    → (bins : List (List ℕ)) → end ≡ Some bins → IsPacking game (packing_for game (items ++ size ∷ []) bins) (items ++ size ∷ [])
    → IsPacked game format (node_at (position loads items) (Send size None placements))
    → IsPacked (with_target target game) format (node_at (position loads items) (Send size (weakened_pack game end (items ++ size ∷ []) news None) news))
packed_new game target One loads items size end placements news bins e holds packed = absurd (packed.shown.1 tt)
packed_new game target Two loads items size end placements news bins e holds packed =
    let made = packing_for game (items ++ size ∷ []) bins in
    let small = with_target target game in
    let node = λ (pack : Option (List (List ℕ))). node_at (position loads items) (Send size pack news) in
    ⊎_elim
    (λ t.
    let is : weakened_pack game end (items ++ size ∷ []) news None ≡ Some made =
    cond-true (all_over news) (option_map (packing_for game (items ++ size ∷ [])) end) None t ∙ ap (option_map (packing_for game (items ++ size ∷ []))) e in
    subst (λ pack. IsPacked small Two (node pack)) (sym is)
    (record { shown = (λ h. all_over_is news t, λ h. tt); holds = packing_at game target made (items ++ size ∷ []) holds }))
    (λ f.
    let is : weakened_pack game end (items ++ size ∷ []) news None ≡ None =
    cond-false (all_over news) (option_map (packing_for game (items ++ size ∷ [])) end) None f in
    subst (λ pack. IsPacked small Two (node pack)) (sym is)
    (record { shown = (λ h. absurd h, λ all. true≢false (sym (all_over_from news all) ∙ f)); holds = tt }))
    (cases_Bool (all_over news))

-- ---- what a node leads to

-- the earlier node, at its new number
abbrev Leads : List Position → (ℕ → ℕ) → List Position → ℕ → Position → Type 0
Leads earlier name later target p =
    (child : ℕ) → StandsAt earlier child p → All (λ load. load < target) p.loads → StandsAt later (name child) p

at_lower : (game : GameNumbers) (target : ℕ) (name : ℕ → ℕ) (size : ℕ) (placement : Placement) → target ≤ game.target → IsOverAtTarget game size placement
    → IsOverAtTarget (with_target target game) size (weakened_placement target name size placement)
at_lower game target name size placement l over =
    let new = weakened_placement target name size placement in
    ⊎_elim
    (λ (t : leb target (placement.load + size) ≡ true).
    let is : new.next ≡ Over = cond-true (leb target (placement.load + size)) Over (renamed_then name placement.next) t in
    (λ h. leb-true target (placement.load + size) t, λ h. subst IsOver (sym is) tt))
    (λ (f : leb target (placement.load + size) ≡ false).
    let is : new.next ≡ renamed_then name placement.next = cond-false (leb target (placement.load + size)) Over (renamed_then name placement.next) f in
    let below = leb-false target (placement.load + size) f in
    (λ h. absurd (still_on placement.next (subst IsOver is h) (λ o. omega (arith, over.0 o, below, l))), λ reached. absurd (omega (arith, reached, below))))
    (cases_Bool (leb target (placement.load + size)))
  where
    still_on : (next : Then) → IsOver (renamed_then name next) → (IsOver next → ⊥) → ⊥
    still_on Over h not = not tt
    still_on (To child) h not = h

leads_lower : (game : GameNumbers) (target : ℕ) (name : ℕ → ℕ) (size : ℕ) (placement : Placement) (p : Position) (earlier later : List Position)
    → All (λ load. load < target) p.loads → Leads earlier name later target (after p placement.load size)
    → LeadsTo earlier placement.next (after p placement.load size)
    → LeadsTo later (weakened_placement target name size placement).next (after p placement.load size)
leads_lower game target name size placement p earlier later below leads h =
    let next = placement.next in
    ⊎_elim
    (λ (t : leb target (placement.load + size) ≡ true). subst (λ n. LeadsTo later n (after p placement.load size))
    (sym (cond-true (leb target (placement.load + size)) Over (renamed_then name next) t)) tt)
    (λ (f : leb target (placement.load + size) ≡ false). subst (λ n. LeadsTo later n (after p placement.load size))
    (sym (cond-false (leb target (placement.load + size)) Over (renamed_then name next) f))
    (by next h (All-put (λ load. load < target) (placement.load + size) _ (leb-false target (placement.load + size) f)
    (All-take_out (λ load. load < target) placement.load p.loads below))))
    (cases_Bool (leb target (placement.load + size)))
  where
    by : (next : Then) → LeadsTo earlier next (after p placement.load size) → All (λ load. load < target) (after p placement.load size).loads
        → LeadsTo later (renamed_then name next) (after p placement.load size)
    by Over h all = tt
    by (To child) h all = leads child h all

-- ---- the rules of a node that stays

packed_lower : (game : GameNumbers) (target : ℕ) (name : ℕ → ℕ) (format : Format) (loads items : List ℕ) (step : Step) (end : Option (List (List ℕ)))
    → (bins : List (List ℕ)) → end ≡ Some bins → IsPacking game (packing_for game (items ++ sent_items step) bins) (items ++ sent_items step)
    → IsPacked game format (node_at (position loads items) step)
    → IsPacked (with_target target game) format (node_at (position loads items) (weakened_step game target name end items step))
packed_lower game target name format loads items (Send size (Some own) placements) end bins e holds packed =
    packed_own game target format loads items size own placements (map (weakened_placement target name size) placements)
    (λ all. All-map (λ (p : Placement). IsOver p.next) (weakened_placement target name size) placements
    (All-weaker (λ (p : Placement). IsOver p.next) (λ p. IsOver (weakened_placement target name size p).next) (over_stays target name size) placements all)) packed
packed_lower game target name format loads items (Send size None placements) end bins e holds packed =
    packed_new game target format loads items size end placements (map (weakened_placement target name size) placements) bins e holds packed
packed_lower game target name One loads items (Burst number size own) end bins e holds packed =
    record { shown = packed.shown; holds = packing_at game target own (items ++ sent_items (Burst number size own)) packed.holds }
packed_lower game target name Two loads items (Burst number size own) end bins e holds packed =
    record { shown = packed.shown; holds = packing_at game target own (items ++ sent_items (Burst number size own)) packed.holds }

rules_lower : (game : GameNumbers) (target : ℕ) (name : ℕ → ℕ) (format : Format) (earlier later : List Position) (last final : Bool) (loads items : List ℕ)
    (step : Step) (end : Option (List (List ℕ))) → target ≤ game.target → All (λ load. load < target) loads
    → MeetsRules format game (sizes_of game) earlier last (node_at (position loads items) step)
    → (bins : List (List ℕ)) → end ≡ Some bins → IsPacking game (packing_for game (items ++ sent_items step) bins) (items ++ sent_items step)
    → ((p : Position) → Leads earlier name later target p)
    → (IsTrue final → IsEmptyPosition (position loads items))
    → MeetsRules format (with_target target game) (sizes_of game) later final (node_at (position loads items) (weakened_step game target name end items step))
rules_lower game target name format earlier later last final loads items (Send size pack placements) end l below m bins e holds leads root =
    let at = position loads items in
    let loads_are : IsLoads (with_target target game) loads = record { one_each = m.0.one_each; descending = m.0.descending; below_target = below } in
    let placed = map-map (λ (p : Placement). p.load) (weakened_placement target name size) placements ∙ m.1.1.1.1.1.0 in
    let over = All-map (IsOverAtTarget (with_target target game) size) (weakened_placement target name size) placements
    (λ k d within. at_lower game target name size (get_or placements k d) l (m.1.1.1.1.1.1.0 k d within)) in
    let child = All-map (λ (p : Placement). LeadsTo later p.next (after at p.load size)) (weakened_placement target name size) placements
    (λ k d within. let p = get_or placements k d in
    leads_lower game target name size p at earlier later below (leads (after at p.load size)) (m.1.1.1.1.1.1.1.0 k d within)) in (
      loads_are,
      (
        m.1.0,
        (
          m.1.1.0,
          (tt, (packed_lower game target name format loads items (Send size pack placements) end bins e holds m.1.1.1.1.0, (placed, (over, (child, (root, tt)))))),
        ),
      ),
    )
rules_lower game target name format earlier later last final loads items (Burst number size own) end l below m bins e holds leads root =
    let loads_are : IsLoads (with_target target game) loads = record { one_each = m.0.one_each; descending = m.0.descending; below_target = below } in
    let size_is = size_from_Contains game.capacity size m.1.1.0 in
    let long : most_below_target (with_target target game) size loads < number = omega (arith, m.1.1.1.0, most_lower game target size loads size_is.low l) in (
      loads_are,
      (
        m.1.0,
        (
          m.1.1.0,
          (
            long,
            (
              packed_lower game target name format loads items (Burst number size own) end bins e holds m.1.1.1.1.0,
              (tt, ((λ k d within. absurd (omega (arith, within))), ((λ k d within. absurd (omega (arith, within))), (root, tt)))),
            ),
          ),
        ),
      ),
    )

of_format_lower : (game : GameNumbers) (target : ℕ) (name : ℕ → ℕ) (end : Option (List (List ℕ))) (items : List ℕ) (format : Format) (step : Step)
    → IsOfFormat format step → IsOfFormat format (weakened_step game target name end items step)
of_format_lower game target name end items One (Send size pack placements) h = h
of_format_lower game target name end items One (Burst number size pack) h = h
of_format_lower game target name end items Two step h = h

-- ---- strategies

module _ (format : Format) (game : GameNumbers) (target : ℕ) (nodes : List AdvNode) (legal : IsLegal format game (sizes_of game) nodes) (low : game.capacity < target)
    (high : target ≤ game.target) where
  abbrev news : List AdvNode
  news = first_kept game target nodes (length nodes)

  root : AdvNode
  root = (legal_root format game nodes legal).0

  root_there : slice_get nodes (length nodes - 1) ≡ Some root
  unfolding root
  root_there = (legal_root format game nodes legal).1

  root_empty : IsEmptyPosition (position_of root)
  unfolding root
  root_empty = (legal_root format game nodes legal).2

  root_stays : stays target root ≡ true
  root_stays =
      stays_from target nodes root (All-weaker (λ load. load ≡ 0) (λ load. load < target) (λ load e. omega (arith, e, low)) root.loads root_empty.loads)

  after_root : new_number target nodes (length nodes - 1) + 1 ≡ new_number target nodes (length nodes)
  after_root =
      let more = number_more target nodes (length nodes - 1) root root_there in
      let last : length nodes - 1 + 1 ≡ length nodes = omega (arith, legal.low) in
      omega (arith, more, cond-true {A = ℕ} (stays target root) 1 0 root_stays, ap (new_number target nodes) last)

  -- the last node that stays is the root
  last_kept : (place : ℕ) (new : AdvNode) (kept : IsKept game target nodes (length nodes) place new) → place + 1 ≡ length news → IsEmptyPosition (position_of kept.node)
  last_kept place new kept e =
      let long = length_kept game target nodes (length nodes) (omega arith) in
      ⊎_elim
      (λ before. absurd (omega (
        arith,
        number_above target nodes kept.number (length nodes - 1) kept.node kept.there kept.stays before,
        kept.moved,
        after_root,
        long,
        e,
      )))
      (λ from.
      let is : kept.number ≡ length nodes - 1 = omega (arith, from, kept.within) in
      let same : kept.node ≡ root = same_Some kept.node root (sym kept.there ∙ ap (slice_get nodes) is ∙ root_there) in
      subst (λ (n : AdvNode). IsEmptyPosition (position_of n)) (sym same) root_empty)
      (cases_lt kept.number (length nodes - 1))

  kept_rules : (place : ℕ) (new : AdvNode) → slice_get news place ≡ Some new
      → MeetsRules format (with_target target game) (sizes_of game) (map position_of (take place news)) (eqb (place + 1) (length news)) new
  kept_rules place new e =
      let kept = kept_from game target nodes (length nodes) place new (omega arith) e in
      let k = kept.number in
      let node = kept.node in
      let name = new_number target nodes in
      let earlier = map position_of (take k nodes) in
      let later = map position_of (take place news) in
      let ends = legal_ends format game nodes legal k node kept.there in
      let items = node.items ++ sent_items node.step in
      let holds = end_packing_holds game items items ends.0 ends.2 (λ x. refl) in
      let leads = λ (p : Position) (child : ℕ) (stands : StandsAt earlier child p) (below : All (λ load. load < target) p.loads).
      let before = earlier_node nodes k child p stands in
      let child_stays = stays_from target nodes before.0 (subst (λ (q : Position). All (λ load. load < target) q.loads) (sym before.3) below) in
      let there = kept_there game target nodes (length nodes) child before.0 (omega arith) (slice_get_within nodes child before.0 before.1) before.1 child_stays in
      let lower : name child < place = omega (arith, number_above target nodes child k before.0 before.1 child_stays before.2, kept.moved) in
      let first = slice_get-take-within news place (name child) (kept_as game target nodes child before.0) lower there in
      slice_get-map position_of (take place news) (name child) ∙ ap (option_map position_of) first ∙ ap Some before.3 in
      let final = eqb (place + 1) (length news) in
      let m = rules_lower game target name format earlier later (eqb (k + 1) (length nodes)) final node.loads node.items node.step (end_packing nodes (k + 1) k) high
      (below_from target nodes node kept.stays) (legal.each k node kept.there) ends.0 ends.1 holds leads
      (λ is. last_kept place new kept (eqb-true (place + 1) (length news) is)) in
      subst (λ (n : AdvNode). MeetsRules format (with_target target game) (sizes_of game) later final n) (sym kept.is) m

  kept_formed : All (λ node. IsOfFormat format node.step) news
  kept_formed place d within =
      let new = get_or news place d in
      let kept = kept_from game target nodes (length nodes) place new (omega arith) (slice_get-get_or news place d within) in
      let node = kept.node in
      let here = All_at format nodes legal.formed kept.number node kept.there in
      subst (λ (n : AdvNode). IsOfFormat format n.step) (sym kept.is)
      (of_format_lower game target (new_number target nodes) (end_packing nodes (kept.number + 1) kept.number) node.items format node.step here)
    where
      All_at : (format : Format) (xs : List AdvNode) → All (λ node. IsOfFormat format node.step) xs → (k : ℕ) (node : AdvNode) → slice_get xs k ≡ Some node
          → IsOfFormat format node.step
      All_at format xs all k node e =
          let l = slice_get_within xs k node e in
          let same : get_or xs k node ≡ node = same_Some (get_or xs k node) node (sym (slice_get-get_or xs k node l) ∙ e) in
          subst (λ (n : AdvNode). IsOfFormat format n.step) same (all k node l)

  pub weakened_is_legal : IsGame (with_target target game) → IsLegal format (with_target target game) (sizes_of game) (weakened_adversary game target nodes)
  unfolding weakened_adversary
  weakened_is_legal g =
      let long = length_kept game target nodes (length nodes) (omega arith) in
      record {
        of_game = g;
        low = omega (arith, long, after_root);
        high = omega (arith, long, number_within target nodes (length nodes), legal.high);
        formed = kept_formed;
        each = kept_rules;
      }
