-- The end of a play: a load reached the target, and a packing of the items.
use Rattle.std.proofs.Common.{◌≡◌, ℕ, zero, suc, ◌+◌, ◌-◌, ◌/◌, ◌<◌, ◌≤◌, Option, List, [], ◌∷◌, ◌++◌, Some, None, map, take, replicate, sum, refl, ap}
use Rattle.std.proofs.Common.{sym, ◌∙◌, subst, Contains, inl, inr, ⊎_elim, eqb, arith, append_assoc}
use Rattle.std.specs.Prelude.{Any}
use Rattle.std.specs.List.{All, slice_get, concat, flat_map, range_with_len}
use Rattle.std.proofs.lemmas.List.{append-nil, replicate-append-replicate}
use Rattle.std.specs.Prelude.{IfSome, option_map}
use Rattle.std.proofs.lemmas.Grind.{flat_map-append}
use Rattle.std.specs.Option.{option_and_then, option_or, unwrap_or}
use Rattle.std.proofs.lemmas.Bool.{cases_lt, cases_eq, cond-true, cond-false, eq-eqb, ne_eqb}
use Rattle.std.proofs.lemmas.List.Elements.{All-contains, All-nil, All-cons, All-head, All-tail}
use Rattle.std.proofs.lemmas.List.Sums.{sum_by-set, sum_by-cons}
use Rattle.std.proofs.lemmas.Option.{none-some, same_Some}
use Rattle.std.proofs.Math.Nat.{div-eq-sub-div}
use Rattle.items.specs.Game.{GameNumbers, IsGame}
use Rattle.items.specs.Multiset.{Same, IsSize, count, put_ascending, sizes_of}
use Rattle.items.specs.Packable.{Packable, IsPacking}
use Rattle.items.proofs.MultisetLemmas.{count-append, count-put_ascending, sum_by-Same}
use Rattle.items.proofs.SameLemmas.{Same-append, count_no_size}
use Rattle.items.proofs.SizesLemmas.{sizes_are_sizes}
use Rattle.packing_witness.specs.Edits.{without}
use Rattle.packing_witness.proofs.PackableLemmas.{IsPacking-Same, Packable-part, sum-packing-le}
use Rattle.packing_witness.proofs.PackingLemmas.{IsPacking-without_last, without_some}
use Rattle.items.proofs.ListLemmas.{range_push}
use Rattle.loads.specs.After.{after}
use Rattle.loads.specs.Position.{position}
use Rattle.loads.specs.declared.position.Position.{Position}
use Rattle.loads.specs.ByBin.{placed}
use Rattle.online_play.specs.Algorithm.{IsAlgorithm, run}
use Rattle.online_play.specs.Laws.{ComesTo}
use Rattle.strategy_text.specs.declared.node.AdvNode.{AdvNode}
use Rattle.strategy_text.specs.declared.node.Placement.{Placement}
use Rattle.strategy_text.specs.declared.node.Step.{Step}
use Rattle.strategy_text.specs.declared.node.Step.TheVariants.{Send, Burst}
use Rattle.strategy_text.specs.declared.node.Then.{Then}
use Rattle.strategy_text.specs.declared.node.Then.TheVariants.{Over, To}
use Rattle.adversary_graph.specs.Judging.{node_at}
use Rattle.adversary_graph.specs.Nodes.{position_of, sent_items, sent_size, packing_of, placements_of}
use Rattle.adversary_graph.specs.Play.{End, IsLost, Play, play, play_to, play_with, end_at, end_by_step, end_of, end_packing, first_child, child_of, goes_on, load_hit, next_at}
use Rattle.adversary_graph.specs.Play.{beyond, without_all}
use Rattle.adversary_graph.specs.Playing.{GoesOn, IsStep, StandsReady}
use Rattle.adversary_graph.specs.Pools.{Pool, IsPool, IsRoot}
use Rattle.adversary_graph.specs.Rules.{IsLongEnough, IsOver, LeadsTo, most_below_target}
use Rattle.adversary_graph.proofs.PoolLemmas.{rules_of}
use Rattle.adversary_graph.proofs.RuleLemmas.{game_volume}
use Rattle.adversary_graph.proofs.WonLemmas.{earlier_node, sent_sizes, not_all_over}
use Rattle.adversary_graph.proofs.PlayLemmas.{root_ready, send_step, burst_step, Hits, hits_at, ready_packable, reaches, stays_reached, run_placed, bin_in_run}

-- ---- a burst takes a load to the target

first_of_burst : (game : GameNumbers) (history : List ℕ) (n size : ℕ) → Packable game (history ++ replicate (suc n) size) → Packable game (history ++ size ∷ [])
first_of_burst game history n size packable =
    Packable-part game (history ++ size ∷ []) (history ++ replicate (suc n) size)
    (λ x. omega (arith, count-append x history (size ∷ []), count-append x history (size ∷ replicate n size))) packable

module _ (game : GameNumbers) (answer : List ℕ → ℕ) (algorithm : IsAlgorithm game answer) (size : ℕ) where
  -- the burst with its first item sent
  next_of_burst : (history : List ℕ) (n : ℕ) → (history ++ size ∷ []) ++ replicate n size ≡ history ++ replicate (suc n) size
  next_of_burst history n = append_assoc history (size ∷ []) (replicate n size)

  still_reached : (n : ℕ) (history : List ℕ) → Packable game (history ++ replicate n size) → Any (λ load. game.target ≤ load) (run game answer history)
      → Any (λ load. game.target ≤ load) (run game answer (history ++ replicate n size))
  still_reached zero history packable any = subst (λ (xs : List ℕ). Any (λ load. game.target ≤ load) (run game answer xs)) (sym (append-nil history)) any
  still_reached (suc n) history packable any =
      let once = first_of_burst game history n size packable in
      subst (λ (xs : List ℕ). Any (λ load. game.target ≤ load) (run game answer xs)) (next_of_burst history n)
      (still_reached n (history ++ size ∷ []) (subst (Packable game) (sym (next_of_burst history n)) packable) (stays_reached game answer algorithm history size once any))

  pub burst_reaches : 1 ≤ size → (n : ℕ) (history : List ℕ) → most_below_target game size (run game answer history) < n → Packable game (history ++ replicate n size)
      → Any (λ load. game.target ≤ load) (run game answer (history ++ replicate n size))
  burst_reaches low zero history most packable = absurd (omega arith)
  burst_reaches low (suc n) history most packable =
      let once = first_of_burst game history n size packable in
      let hit = load_hit game answer history size in
      let rest = subst (Packable game) (sym (next_of_burst history n)) packable in
      subst (λ (xs : List ℕ). Any (λ load. game.target ≤ load) (run game answer xs)) (next_of_burst history n) (⊎_elim
      (λ below.
      let room : (ℕ → ℕ) = λ x. (game.target - 1 - x) / size in
      let first : (game.target - 1 - hit) / size ≡ (game.target - 1 - hit - size) / size + 1 = div-eq-sub-div (omega arith) (omega arith) in
      let same : game.target - 1 - hit - size ≡ game.target - 1 - (hit + size) = omega arith in
      let second : (game.target - 1 - hit - size) / size ≡ (game.target - 1 - (hit + size)) / size = ap (λ x. x / size) same in
      let moved = sum_by-set room (run game answer history) (answer (history ++ size ∷ [])) (hit + size) 0 (bin_in_run game answer algorithm history size once) in
      let after : most_below_target game size (run game answer (history ++ size ∷ [])) ≡ most_below_target game size (placed (run game answer history) (answer
      (history ++ size ∷ [])) size) =
      ap (most_below_target game size) (run_placed game answer algorithm history size once) in
      burst_reaches low n (history ++ size ∷ []) (omega (arith, most, moved, after, first, second)) rest)
      (λ reached. still_reached n (history ++ size ∷ []) rest (reaches game answer algorithm history size once reached))
      (cases_lt (hit + size) game.target))

-- ---- the end of a play

pub record EndFacts (game : GameNumbers) (answer : List ℕ → ℕ) (nodes : List AdvNode) (end : End) : Type 0 where
  pub packable : Packable game end.items
  pub reached : Any (λ load. game.target ≤ load) (run game answer end.items)
  pub node : AdvNode
  pub is : slice_get nodes end.number ≡ Some node
  pub same : Same end.items (node.items ++ sent_items node.step)

module _ (pool : Pool) (is_pool : IsPool pool) (answer : List ℕ → ℕ) (algorithm : IsAlgorithm pool.game answer) where
  end_facts : (number : ℕ) (history : List ℕ) (node : AdvNode) → slice_get pool.nodes number ≡ Some node → ComesTo pool.game answer history (position_of node)
      → Any (λ load. pool.game.target ≤ load) (run pool.game answer (history ++ sent_items node.step))
      → EndFacts pool.game answer pool.nodes (end_at (history ++ sent_items node.step) number)
  end_facts number history node e at reached = record {
    packable = ready_packable pool is_pool answer algorithm number history node e at;
    reached = reached;
    node = node;
    is = e;
    same = Same-append history node.items (sent_items node.step) (sent_items node.step) at.items (λ z. refl);
  }

  -- what follows after one item
  after_one : (number : ℕ) (history : List ℕ) (size : ℕ) (placements : List Placement) (next : Then) (go : ℕ → List ℕ → Option End) (end : End)
      → (h : Hits pool.game answer pool.nodes number history size placements) → h.next ≡ next
      → (pool.game.target ≤ load_hit pool.game answer history size + size → EndFacts pool.game answer pool.nodes (end_at (history ++ size ∷ []) number))
      → ((child : ℕ) → StandsReady pool.game answer pool.nodes child (history ++ size ∷ []) → go child (history ++ size ∷ []) ≡ Some end
      → EndFacts pool.game answer pool.nodes end)
      → goes_on go number (history ++ size ∷ []) (Some next) ≡ Some end → EndFacts pool.game answer pool.nodes end
  after_one number history size placements Over go end h is over on e =
      let reached = subst (λ (next : Then). IsOver next) (sym is) tt in
      subst (EndFacts pool.game answer pool.nodes) (same_Some (end_at (history ++ size ∷ []) number) end e) (over (h.over.0 reached))
  after_one number history size placements (To child) go end h is over on e = on child (h.ready child is).1 e

  end_at_step : (step : Step) (number : ℕ) (history : List ℕ) (node : AdvNode) (go : ℕ → List ℕ → Option End) (end : End) → node.step ≡ step
      → slice_get pool.nodes number ≡ Some node → ComesTo pool.game answer history (position_of node)
      → ((child : ℕ) (items : List ℕ) → StandsReady pool.game answer pool.nodes child items → go child items ≡ Some end → EndFacts pool.game answer pool.nodes end)
      → end_by_step pool.game answer go number history step ≡ Some end → EndFacts pool.game answer pool.nodes end
  end_at_step (Send size pack placements) number history node go end is e at on ends =
      let h = hits_at pool is_pool answer algorithm number history node size pack placements e is at in
      let packable = subst (λ (step : Step). Packable pool.game (history ++ sent_items step)) is (ready_packable pool is_pool answer algorithm number history node e at) in
      after_one number history size placements h.next go end h refl
      (λ reached. subst (λ (step : Step). EndFacts pool.game answer pool.nodes (end_at (history ++ sent_items step) number)) is
      (end_facts number history node e at (subst (λ (step : Step). Any (λ load. pool.game.target ≤ load) (run pool.game answer (history ++ sent_items step))) (sym is)
      (reaches pool.game answer algorithm history size packable reached))))
      (λ child. on child (history ++ size ∷ []))
      (subst (λ (next : Option Then). goes_on go number (history ++ size ∷ []) next ≡ Some end) h.is ends)
  end_at_step (Burst times size pack) number history node go end is e at on ends =
      let m = rules_of pool is_pool number node e in
      let send : Contains pool.sizes size = subst (λ (step : Step). Contains pool.sizes (sent_size step)) is m.send in
      let low = (All-contains (IsSize pool.game.capacity) pool.sizes size is_pool.sizes send).low in
      let long : most_below_target pool.game size node.loads < times = subst (λ (step : Step). IsLongEnough pool.game node.loads step) is m.burst in
      let same = sum_by-Same (λ load. (pool.game.target - 1 - load) / size) (run pool.game answer history) node.loads at.loads in
      let packable = subst (λ (step : Step). Packable pool.game (history ++ sent_items step)) is (ready_packable pool is_pool answer algorithm number history node e at) in
      let reached = burst_reaches pool.game answer algorithm size low times history (omega (arith, long, same)) packable in
      subst (EndFacts pool.game answer pool.nodes) (same_Some (end_at (history ++ replicate times size) number) end ends)
      (subst (λ (step : Step). EndFacts pool.game answer pool.nodes (end_at (history ++ sent_items step) number)) is
      (end_facts number history node e at (subst (λ (step : Step). Any (λ load. pool.game.target ≤ load) (run pool.game answer (history ++ sent_items step))) (sym is) reached)))

  pub ends_lost : (n number : ℕ) (history : List ℕ) (end : End) → StandsReady pool.game answer pool.nodes number history
      → end_of pool.game answer pool.nodes n number history ≡ Some end
      → EndFacts pool.game answer pool.nodes end
  unfolding end_of
  ends_lost zero number history end ready e = absurd (none-some end e)
  ends_lost (suc n) number history end ready e =
      let node = ready.0 in
      let step = λ (found : AdvNode). end_by_step pool.game answer (end_of pool.game answer pool.nodes n) number history found.step in
      end_at_step node.step number history node (end_of pool.game answer pool.nodes n) end refl ready.1 ready.2
      (λ child items. ends_lost n child items end)
      (sym (ap (option_and_then step) ready.1) ∙ e)

-- ---- a play has an end

module _ (pool : Pool) (is_pool : IsPool pool) (answer : List ℕ → ℕ) (algorithm : IsAlgorithm pool.game answer) where
  ended_by : (n number : ℕ) (next : Option ℕ) (items : List ℕ) (whole : Option End) → number < suc n
      → ((child : ℕ) → child < n → StandsReady pool.game answer pool.nodes child items → (end : End) × (end_of pool.game answer pool.nodes n child items ≡ Some end))
      → GoesOn pool.game answer pool.nodes number next items (end_of pool.game answer pool.nodes n) whole → (end : End) × (whole ≡ Some end)
  ended_by n number None items whole l on goes = (end_at items number, goes)
  ended_by n number (Some child) items whole l on goes =
      let end = on child (omega (arith, l, goes.0)) goes.1 in
      (end.0, goes.2 ∙ end.1)

  step_at : (step : Step) (number : ℕ) (history : List ℕ) (node : AdvNode) → node.step ≡ step → slice_get pool.nodes number ≡ Some node
      → ComesTo pool.game answer history (position_of node) → (next : Option ℕ) × (items : List ℕ) × IsStep pool.game answer pool.nodes number history next items
  step_at (Send size pack placements) number history node is e at = (
    option_and_then child_of (next_at (load_hit pool.game answer history size) placements),
    history ++ size ∷ [],
    send_step pool is_pool answer algorithm number history node size pack placements e is at,
  )
  step_at (Burst times size pack) number history node is e at =
      (None, history ++ replicate times size, burst_step pool is_pool answer algorithm number history node times size pack e is)

  pub has_end : (n number : ℕ) (history : List ℕ) → number < n → StandsReady pool.game answer pool.nodes number history
      → (end : End) × (end_of pool.game answer pool.nodes n number history ≡ Some end)
  unfolding end_of
  has_end zero number history l ready = absurd (omega arith)
  has_end (suc n) number history l ready =
      let step = step_at ready.0.step number history ready.0 refl ready.1 ready.2 in
      let go = end_of pool.game answer pool.nodes n in
      let by = λ (node : AdvNode). end_by_step pool.game answer go number history node.step in
      let end = ended_by n number step.0 step.1 (by step.2.0) l (λ child below next. has_end n child step.1 below next) (step.2.2 go) in
      (end.0, ap (option_and_then by) step.2.1 ∙ end.1)

-- ---- the end packing

first_child_by : (P : Placement → Type 0) (load : ℕ) (next : Then) (placements : List Placement) → P (record { load = load; next = next })
    → ((All (λ placement. IsOver placement.next) placements → ⊥) → (l child : ℕ) × (first_child placements ≡ Some child) × P (record { load = l; next = To child }))
    → (All (λ placement. IsOver placement.next) (record { load = load; next = next } ∷ placements) → ⊥)
    → (l child : ℕ) × (first_child (record { load = load; next = next } ∷ placements) ≡ Some child) × P (record { load = l; next = To child })
first_child_by P load Over placements p others not =
    others (λ all. not (All-cons (λ (placement : Placement). IsOver placement.next) (record { load = load; next = Over }) placements tt all))
first_child_by P load (To child) placements p others not = (load, child, refl, p)

-- where not each placement is over, the first that has a child
first_child_found : (P : Placement → Type 0) (placements : List Placement) → All P placements → (All (λ placement. IsOver placement.next) placements → ⊥)
    → (load child : ℕ) × (first_child placements ≡ Some child) × P (record { load = load; next = To child })
first_child_found P [] all not = absurd (not (All-nil (λ (placement : Placement). IsOver placement.next)))
first_child_found P (placement ∷ placements) all not =
    first_child_by P placement.load placement.next placements (All-head P placement placements all) (first_child_found P placements (All-tail P placement placements all)) not

-- the bins of an end packing are a packing of the items with all that is sent, and maybe more
pub record PacksEnough (game : GameNumbers) (items : List ℕ) (bins : List (List ℕ)) : Type 0 where
  pub whole : List ℕ
  pub packed : IsPacking game bins whole
  pub sizes : All (IsSize game.capacity) whole
  pub enough : (x : ℕ) → count x items ≤ count x whole

abbrev pub HasEndPacking : GameNumbers → List AdvNode → ℕ → ℕ → List ℕ → Type 0
HasEndPacking game nodes n number items = (bins : List (List ℕ)) × (end_packing nodes n number ≡ Some bins) × PacksEnough game items bins

module _ (pool : Pool) (is_pool : IsPool pool) where
  -- a packing that a node shows
  own_packing : (loads items : List ℕ) (step : Step) (number n : ℕ) (bins : List (List ℕ)) → slice_get pool.nodes number ≡ Some (node_at (position loads items) step)
      → packing_of step ≡ Some bins → HasEndPacking pool.game pool.nodes (suc n) number (items ++ sent_items step)
  unfolding end_packing
  own_packing loads items step number n bins e shown =
      let m = rules_of pool is_pool number (node_at (position loads items) step) e in
      let packs = λ (pack : Option (List (List ℕ))). IfSome pack (λ bins. IsPacking pool.game bins (items ++ sent_items step)) in
      let own = λ (node : AdvNode). option_or (packing_of node.step) (option_and_then (end_packing pool.nodes n) (first_child (placements_of node.step))) in
      let later = option_and_then (end_packing pool.nodes n) (first_child (placements_of step)) in (
        bins,
        ap (option_and_then own) e ∙ ap (λ (pack : Option (List (List ℕ))). option_or pack later) shown,
        record {
          whole = items ++ sent_items step;
          packed = subst packs shown m.pack.holds;
          sizes = sent_sizes pool.game pool.sizes loads items step is_pool.sizes m.items m.send;
          enough = λ x. omega arith;
        },
      )

  end_packing_by : (loads items : List ℕ) (step : Step) (number n : ℕ) → slice_get pool.nodes number ≡ Some (node_at (position loads items) step)
      → ((child : ℕ) (node : AdvNode) → child < number → slice_get pool.nodes child ≡ Some node → HasEndPacking pool.game pool.nodes n child (node.items ++ sent_items node.step))
      → HasEndPacking pool.game pool.nodes (suc n) number (items ++ sent_items step)
  unfolding end_packing
  end_packing_by loads items (Send size (Some bins) placements) number n e before = own_packing loads items (Send size (Some bins) placements) number n bins e refl
  end_packing_by loads items (Burst times size bins) number n e before = own_packing loads items (Burst times size bins) number n bins e refl
  end_packing_by loads items (Send size None placements) number n e before =
      let here = position loads items in
      let m = rules_of pool is_pool number (node_at here (Send size None placements)) e in
      let earlier = map position_of (take number pool.nodes) in
      let found = first_child_found (λ placement. LeadsTo earlier placement.next (after here placement.load size)) placements m.child
      (not_all_over pool.game pool.format loads items size placements m.pack) in
      let node = earlier_node pool.nodes number found.1 (after here found.0 size) found.3 in
      let ends = before found.1 node.0 node.2 node.1 in
      let own = λ (node : AdvNode). option_or (packing_of node.step) (option_and_then (end_packing pool.nodes n) (first_child (placements_of node.step))) in (
        ends.0,
        ap (option_and_then own) e ∙ ap (option_and_then (end_packing pool.nodes n)) found.2 ∙ ends.1,
        record {
          whole = ends.2.whole;
          packed = ends.2.packed;
          sizes = ends.2.sizes;
          enough = λ x.
              let same : count x node.0.items ≡ count x (put_ascending size items) = ap (λ (p : Position). count x p.items) node.3 in
              omega (arith, ends.2.enough x, same, count-put_ascending x size items, count-append x items (size ∷ []), count-append x node.0.items (sent_items node.0.step));
        },
      )

  -- a node without a packing has a child
  pub no_packing : (loads items : List ℕ) (step : Step) (number : ℕ) → slice_get pool.nodes number ≡ Some (node_at (position loads items) step)
      → packing_of step ≡ None → (child : ℕ) × (first_child (placements_of step) ≡ Some child) × (child < number)
  no_packing loads items (Send size (Some bins) placements) number e none = absurd (none-some bins (sym none))
  no_packing loads items (Burst times size bins) number e none = absurd (none-some bins (sym none))
  no_packing loads items (Send size None placements) number e none =
      let here = position loads items in
      let m = rules_of pool is_pool number (node_at here (Send size None placements)) e in
      let earlier = map position_of (take number pool.nodes) in
      let found = first_child_found (λ placement. LeadsTo earlier placement.next (after here placement.load size)) placements m.child
      (not_all_over pool.game pool.format loads items size placements m.pack) in
      let node = earlier_node pool.nodes number found.1 (after here found.0 size) found.3 in
      (found.1, found.2, node.2)

  pub has_end_packing : (n number : ℕ) (node : AdvNode) → number < n → slice_get pool.nodes number ≡ Some node
      → HasEndPacking pool.game pool.nodes n number (node.items ++ sent_items node.step)
  has_end_packing zero number node l e = absurd (omega arith)
  has_end_packing (suc n) number node l e =
      end_packing_by node.loads node.items node.step number n e (λ child next below found. has_end_packing n child next (omega (arith, below, l)) found)

-- ---- what an end packing has beyond the items

count_replicate_same : (x n : ℕ) → count x (replicate n x) ≡ n
count_replicate_same x zero = refl
count_replicate_same x (suc n) = omega (arith, count_replicate_same x n, cond-true {A = ℕ} (eqb x x) 1 0 (eq-eqb x x refl))

count_replicate_other : (x y n : ℕ) → (x ≡ y → ⊥) → count x (replicate n y) ≡ 0
count_replicate_other x y zero ne = refl
count_replicate_other x y (suc n) ne = omega (arith, count_replicate_other x y n ne, cond-false {A = ℕ} (eqb x y) 1 0 (ne_eqb x y ne))

count_several-below : (f : ℕ → ℕ) (x from len : ℕ) → x < from → count x (flat_map (λ size. replicate (f size) size) (range_with_len from len)) ≡ 0
count_several-below f x from zero l = refl
count_several-below f x from (suc len) l =
    omega (
      arith,
      count-append x (replicate (f from) from) (flat_map (λ size. replicate (f size) size) (range_with_len (from + 1) len)),
      count_replicate_other x from (f from) (λ e. omega (arith, e, l)),
      count_several-below f x (from + 1) len (omega (arith, l)),
    )

count_several : (f : ℕ → ℕ) (x from len : ℕ) → from ≤ x → x < from + len → count x (flat_map (λ size. replicate (f size) size) (range_with_len from len)) ≡ f x
count_several f x from zero low high = absurd (omega arith)
count_several f x from (suc len) low high =
    let whole = count-append x (replicate (f from) from) (flat_map (λ size. replicate (f size) size) (range_with_len (from + 1) len)) in
    elim (cases_eq x from) [
      | inl e ↦ omega (arith, whole, subst (λ y. count x (replicate (f y) y) ≡ f x) e (count_replicate_same x (f x)), count_several-below f x (from + 1) len (omega (arith, e)))
      | inr n ↦ omega (arith, whole, count_replicate_other x from (f from) n, count_several f x (from + 1) len (omega (arith, low, n)) (omega (arith, high)))
    ]

count_several-above : (f : ℕ → ℕ) (x from len : ℕ) → from + len ≤ x → count x (flat_map (λ size. replicate (f size) size) (range_with_len from len)) ≡ 0
count_several-above f x from zero l = refl
count_several-above f x from (suc len) l =
    omega (
      arith,
      count-append x (replicate (f from) from) (flat_map (λ size. replicate (f size) size) (range_with_len (from + 1) len)),
      count_replicate_other x from (f from) (λ e. omega (arith, e, l)),
      count_several-above f x (from + 1) len (omega (arith, l)),
    )

-- the items with what an end packing has beyond them
Same_beyond : (game : GameNumbers) (bins : List (List ℕ)) (whole items : List ℕ) → Same (concat bins) whole → All (IsSize game.capacity) whole
    → ((x : ℕ) → count x items ≤ count x whole) → Same whole (items ++ beyond game (concat bins) items)
Same_beyond game bins whole items together sizes enough = λ x.
    let f : (ℕ → ℕ) = λ size. count size (concat bins) - count size items in
    let parts = count-append x items (beyond game (concat bins) items) in
    ⊎_elim
    (λ low. let none = count_no_size game.capacity x whole sizes (inl low) in omega (arith, none, enough x, parts, count_several-below f x 1 game.capacity low))
    (λ low. ⊎_elim
    (λ high. omega (arith, together x, enough x, parts, count_several f x 1 game.capacity low (omega (arith, high))))
    (λ high. let none = count_no_size game.capacity x whole sizes (inr (omega (arith, high))) in omega (
      arith,
      none,
      enough x,
      parts,
      count_several-above f x 1 game.capacity (omega (arith, high)),
    ))
    (cases_lt x (1 + game.capacity)))
    (cases_lt x 1)

-- what is taken out of a packing leaves a packing
pub packing_without_all : (game : GameNumbers) (xs items whole : List ℕ) (bins : List (List ℕ)) → IsPacking game bins whole → Same whole (items ++ xs)
    → IsPacking game (without_all xs bins) items
packing_without_all game [] items whole bins p same = IsPacking-Same game bins whole items (λ x. omega (arith, same x, count-append x items [])) p
packing_without_all game (x ∷ xs) items whole bins p same =
    let last = IsPacking-Same game bins whole ((items ++ xs) ++ x ∷ [])
    (λ y. omega (arith, same y, count-append y items (x ∷ xs), count-append y (items ++ xs) (x ∷ []), count-append y items xs)) p in
    let some : 0 < count x ((items ++ xs) ++ x ∷ []) = omega (arith, count-append x (items ++ xs) (x ∷ []), cond-true {A = ℕ} (eqb x x) 1 0 (eq-eqb x x refl)) in
    let out = without_some game ((items ++ xs) ++ x ∷ []) x bins last some in
    let rest = IsPacking-without_last game (items ++ xs) x bins out.0 last out.1 in
    subst (λ (o : Option (List (List ℕ))). IsPacking game (without_all xs (unwrap_or o bins)) items) (sym out.1)
    (packing_without_all game xs items (items ++ xs) out.0 rest (λ y. refl))

pub end_packing_holds : (game : GameNumbers) (items sent : List ℕ) (bins : List (List ℕ)) → PacksEnough game sent bins → Same items sent
    → IsPacking game (without_all (beyond game (concat bins) items) bins) items
end_packing_holds game items sent bins enough same =
    packing_without_all game (beyond game (concat bins) items) items enough.whole bins enough.packed
    (Same_beyond game bins enough.whole items enough.packed.together enough.sizes (λ x. omega (arith, same x, enough.enough x)))

-- ---- the loops of the packing of a play

pub packed_here : (nodes : List AdvNode) (n number : ℕ) (node : AdvNode) (bins : List (List ℕ)) → number < n → slice_get nodes number ≡ Some node
    → packing_of node.step ≡ Some bins
    → end_packing nodes n number ≡ Some bins
unfolding end_packing
packed_here nodes zero number node bins l e shown = absurd (omega arith)
packed_here nodes (suc n) number node bins l e shown =
    let own = λ (node : AdvNode). option_or (packing_of node.step) (option_and_then (end_packing nodes n) (first_child (placements_of node.step))) in
    let later = option_and_then (end_packing nodes n) (first_child (placements_of node.step)) in
    ap (option_and_then own) e ∙ ap (λ (pack : Option (List (List ℕ))). option_or pack later) shown

pub packed_later : (nodes : List AdvNode) (n number child : ℕ) (node : AdvNode) → number < n → slice_get nodes number ≡ Some node → packing_of node.step ≡ None
    → first_child (placements_of node.step) ≡ Some child → child < number → (m : ℕ) × (child < m) × (end_packing nodes n number ≡ end_packing nodes m child)
unfolding end_packing
packed_later nodes zero number child node l e none first below = absurd (omega arith)
packed_later nodes (suc n) number child node l e none first below =
    let own = λ (node : AdvNode). option_or (packing_of node.step) (option_and_then (end_packing nodes n) (first_child (placements_of node.step))) in
    let later = option_and_then (end_packing nodes n) (first_child (placements_of node.step)) in (
      n,
      omega (arith, below, l),
      ap (option_and_then own) e ∙ ap (λ (pack : Option (List (List ℕ))). option_or pack later) none
          ∙ ap (option_and_then (end_packing nodes n)) first,
    )

pub without_all-append : (xs ys : List ℕ) (bins : List (List ℕ)) → without_all (xs ++ ys) bins ≡ without_all ys (without_all xs bins)
without_all-append [] ys bins = refl
without_all-append (x ∷ xs) ys bins = without_all-append xs ys (unwrap_or (without x bins) bins)

pub without_more : (n size : ℕ) (bins : List (List ℕ)) → without_all (replicate (n + 1) size) bins ≡ unwrap_or (without size (without_all (replicate n size) bins))
    (without_all (replicate n size) bins)
without_more n size bins =
    ap (λ (xs : List ℕ). without_all xs bins) (sym (replicate-append-replicate n 1 size)) ∙ without_all-append (replicate n size) (size ∷ []) bins

pub beyond_more : (f : ℕ → ℕ) (i : ℕ) (bins : List (List ℕ))
    → without_all (flat_map (λ size. replicate (f size) size) (range_with_len 1 (i + 1))) bins
    ≡ without_all (replicate (f (i + 1)) (i + 1)) (without_all (flat_map (λ size. replicate (f size) size) (range_with_len 1 i)) bins)
beyond_more f i bins =
    let each : (ℕ → List ℕ) = λ size. replicate (f size) size in
    let next : 1 + i ≡ i + 1 = omega arith in
    let last : i + 1 ≡ suc i = omega arith in
    ap (λ (xs : List ℕ). without_all (flat_map each xs) bins) (ap (range_with_len 1) last ∙ range_push 1 i ∙ ap (λ (x : ℕ). range_with_len 1 i ++ x ∷ []) next)
    ∙ ap (λ (xs : List ℕ). without_all xs bins) (flat_map-append each (range_with_len 1 i) ((i + 1) ∷ [])
    ∙ ap (λ (xs : List ℕ). flat_map each (range_with_len 1 i) ++ xs) (append-nil (each (i + 1))))
    ∙ without_all-append (flat_map each (range_with_len 1 i)) (each (i + 1)) bins

count-le-sum : (most x : ℕ) (xs : List ℕ) → All (IsSize most) xs → count x xs ≤ sum xs
count-le-sum most x [] all = omega arith
count-le-sum most x (y ∷ ys) all =
    let low = (All-head (IsSize most) y ys all).low in
    let rest = count-le-sum most x ys (All-tail (IsSize most) y ys all) in
    let total = sum_by-cons (λ n. n) y ys in
    elim (cases_eq x y) [
      | inl e ↦ omega (arith, low, rest, total, cond-true {A = ℕ} (eqb x y) 1 0 (eq-eqb x y e))
      | inr n ↦ omega (arith, low, rest, total, cond-false {A = ℕ} (eqb x y) 1 0 (ne_eqb x y n))
    ]

pub few_of_each : (game : GameNumbers) (items : List ℕ) (bins : List (List ℕ)) → IsGame game → PacksEnough game items bins → (x : ℕ) → count x (concat bins) ≤ 960
few_of_each game items bins g enough = λ x.
    omega (arith, enough.packed.together x, count-le-sum game.capacity x enough.whole enough.sizes, sum-packing-le game bins enough.whole enough.packed, game_volume game g)

-- ---- the play of a pool

pub plays_are_lost : (pool : Pool) (root : ℕ) (answer : List ℕ → ℕ) → IsPool pool → IsRoot pool.nodes root → IsAlgorithm pool.game answer
    → (lost : Play) × (play pool.game pool.nodes root answer ≡ Some lost) × IsLost pool.game lost
plays_are_lost pool root answer p r algorithm =
    let ready = root_ready pool answer root p r in
    let end = has_end pool p answer algorithm (root + 1) root [] (omega arith) ready in
    let facts = ends_lost pool p answer algorithm (root + 1) root [] end.0 ready end.1 in
    let has = has_end_packing pool p (end.0.number + 1) end.0.number facts.node (omega arith) facts.is in
    let made = λ (bins : List (List ℕ)). play_with pool.game answer end.0.items bins in (
      made has.0,
      ap (option_and_then (play_to pool.game answer pool.nodes)) end.1 ∙ ap (option_map made) has.1,
      record {
        packable = facts.packable;
        packed = end_packing_holds pool.game end.0.items (facts.node.items ++ sent_items facts.node.step) has.0 has.2 facts.same;
        reached = facts.reached;
      },
    )
