-- Plays: one step of a play from a node that the items led to, and the end of a play.
use Rattle.std.proofs.Common.{◌≡◌, ◌≢◌, ℕ, zero, suc, ◌+◌, ◌<◌, ◌≤◌, Option, List, [], ◌∷◌, ◌++◌, Some, None, length, get_or, map, take, replicate}
use Rattle.std.proofs.Common.{refl, ap, sym, ◌∙◌, subst, Contains, inl, inr, eqb, arith, append_assoc}
use Rattle.std.specs.Prelude.{Any}
use Rattle.std.specs.List.{All, slice_get}
use Rattle.std.specs.Option.{option_and_then}
use Rattle.std.proofs.lemmas.Bool.{cases_eq, cond-true, cond-false, eq-eqb, ne_eqb}
use Rattle.std.proofs.lemmas.List.{replicate-append-replicate, get_or-set_other, get_or_default, length-set}
use Rattle.std.proofs.lemmas.List.Elements.{All-head, All-tail, Contains-get_or}
use Rattle.std.proofs.lemmas.List.Quantifiers.{any-set}
use Rattle.std.proofs.lemmas.List.Sums.{sum_by-append}
use Rattle.std.proofs.lemmas.Option.{same_Some}
use Rattle.items.specs.Game.{GameNumbers, IsGame}
use Rattle.items.specs.Multiset.{Same, count, sizes_of}
use Rattle.items.specs.Packable.{Packable}
use Rattle.items.proofs.MultisetLemmas.{count-append, Same-push_put}
use Rattle.items.proofs.SameLemmas.{Same-append, Same-sym}
use Rattle.packing_witness.proofs.PackableLemmas.{Packable-part, Packable-Same}
use Rattle.loads.specs.After.{after}
use Rattle.loads.specs.Loads.{loads_after}
use Rattle.loads.specs.Position.{StandsAt}
use Rattle.loads.specs.declared.position.Position.{Position}
use Rattle.items.proofs.MemberLemmas.{Contains-tail, Contains-Same}
use Rattle.items.proofs.SizesLemmas.{sizes_are_sizes}
use Rattle.loads.proofs.DistinctLemmas.{Contains-distinct}
use Rattle.loads.proofs.LoadsLemmas.{Same-loads_after}
use Rattle.loads.specs.ByBin.{placed}
use Rattle.online_play.specs.Algorithm.{IsAlgorithm, run}
use Rattle.online_play.specs.Laws.{ComesTo}
use Rattle.online_play.proofs.PlayLemmas.{sum_small, run-le-sum}
use Rattle.online_play.proofs.RunLemmas.{run-push, length-run}
use Rattle.online_play.proofs.WonLemmas.{ComesTo-empty, empty_is}
use Rattle.strategy_text.specs.declared.node.AdvNode.{AdvNode}
use Rattle.strategy_text.specs.declared.node.Placement.{Placement}
use Rattle.strategy_text.specs.declared.node.Step.{Step}
use Rattle.strategy_text.specs.declared.node.Step.TheVariants.{Send, Burst}
use Rattle.strategy_text.specs.declared.node.Then.{Then}
use Rattle.strategy_text.specs.declared.node.Then.TheVariants.{Over, To}
use Rattle.adversary_graph.specs.Judging.{LeadsOn}
use Rattle.adversary_graph.specs.Legal.{EachFollows}
use Rattle.adversary_graph.specs.Nodes.{position_of, sent_items}
use Rattle.adversary_graph.specs.Play.{End, end_at, end_by_step, end_of, goes_on, load_hit, next_at, child_of}
use Rattle.adversary_graph.specs.Playing.{GoesOn, IsStep, StandsReady}
use Rattle.adversary_graph.specs.Pools.{Pool, IsPool, IsRoot}
use Rattle.adversary_graph.specs.Rules.{IsOverAtTarget, LeadsTo}
use Rattle.adversary_graph.proofs.PoolLemmas.{rules_of}
use Rattle.adversary_graph.proofs.WonLemmas.{Met, earlier_node, packable_node}

-- ---- one more item

push_not_empty : (items : List ℕ) (item : ℕ) → items ++ item ∷ [] ≢ []
push_not_empty [] item = λ e. cc
push_not_empty (x ∷ items) item = λ e. cc

module _ (game : GameNumbers) (answer : List ℕ → ℕ) (algorithm : IsAlgorithm game answer) (history : List ℕ) (size : ℕ) (packable : Packable game (history ++ size ∷ [])) where
  -- the bin that the algorithm answers
  pub bin_within : answer (history ++ size ∷ []) < game.bins
  bin_within = algorithm (history ++ size ∷ []) (push_not_empty history size) packable

  pub bin_in_run : answer (history ++ size ∷ []) < length (run game answer history)
  bin_in_run = omega (arith, bin_within, length-run game answer history)

  pub run_placed : run game answer (history ++ size ∷ []) ≡ placed (run game answer history) (answer (history ++ size ∷ [])) size
  run_placed = run-push game answer history size (answer (history ++ size ∷ [])) refl bin_within

  pub load_small : IsGame game → get_or (run game answer history) (answer (history ++ size ∷ [])) 0 + size < 65536
  load_small g =
      let total = sum_small game (history ++ size ∷ []) g packable in
      let load = run-le-sum game answer history (answer (history ++ size ∷ [])) 0 bin_in_run in
      omega (arith, total, load, sum_by-append (λ x. x) history (size ∷ []))

  -- the item leads to the position after it
  pub leads_after : (position : Position) → ComesTo game answer history position → ComesTo game answer (history ++ size ∷ []) (after position
      (load_hit game answer history size) size)
  leads_after position at = record {
    packable = packable;
    loads = subst (λ (loads : List ℕ). Same loads (loads_after position.loads (load_hit game answer history size) size)) (sym run_placed)
        (Same-loads_after (run game answer history) position.loads (answer (history ++ size ∷ [])) (load_hit game answer history size) size at.loads bin_in_run refl);
    items = λ x. Same-append history position.items (size ∷ []) (size ∷ []) at.items (λ z. refl) x ∙ Same-push_put size position.items x;
  }

  -- the load that is hit is one of the position
  pub hit_is_load : (position : Position) → ComesTo game answer history position → Contains position.loads (load_hit game answer history size)
  hit_is_load position at =
      Contains-Same (load_hit game answer history size) (run game answer history) position.loads at.loads
      (Contains-get_or (run game answer history) (answer (history ++ size ∷ [])) 0 bin_in_run)

  -- an item that takes the load that it hits to the target
  pub reaches : game.target ≤ load_hit game answer history size + size → Any (λ load. game.target ≤ load) (run game answer (history ++ size ∷ []))
  reaches reached = subst (Any (λ load. game.target ≤ load)) (sym run_placed)
      (any-set (λ load. game.target ≤ load) (run game answer history) (answer (history ++ size ∷ [])) (load_hit game answer history size + size) bin_in_run reached)

  -- a load that reached the target stays there
  pub stays_reached : Any (λ load. game.target ≤ load) (run game answer history) → Any (λ load. game.target ≤ load) (run game answer (history ++ size ∷ []))
  stays_reached any =
      let bin = answer (history ++ size ∷ []) in
      let loads = run game answer history in
      let more = get_or loads bin 0 + size in
      subst (Any (λ load. game.target ≤ load)) (sym run_placed) (elim (cases_eq any.0 bin) [
        | inl e ↦ any-set (λ load. game.target ≤ load) loads bin more bin_in_run
            (omega (arith, any.3, any.4, ap (λ k. get_or loads k 0) e, get_or_default loads any.0 any.1 0 any.2))
        | inr n ↦ (any.0, any.1, omega (arith, any.2, length-set loads bin more), get_or-set_other loads bin any.0 more any.1 n ∙ any.3, any.4)
      ])

-- ---- what follows at a load

-- a load that a placement has
next_found : (P : Placement → Type 0) (load : ℕ) (placements : List Placement) → All P placements → Contains (map (λ (placement : Placement). placement.load) placements) load
    → (next : Then) × (next_at load placements ≡ Some next) × P (record { load = load; next = next })
next_found P load [] all c = absurd (omega (arith, c.1))
next_found P load (placement ∷ placements) all c = elim (cases_eq load placement.load) [
  | inl e ↦ (
    placement.next,
    cond-true (eqb load placement.load) (Some placement.next) (next_at load placements) (eq-eqb load placement.load e),
    subst (λ l. P (record { load = l; next = placement.next })) (sym e) (All-head P placement placements all),
  )
  | inr n ↦
      let later = next_found P load placements (All-tail P placement placements all) (Contains-tail load placement.load (map (λ
      (placement : Placement). placement.load) placements) n c) in
      (later.0, cond-false (eqb load placement.load) (Some placement.next) (next_at load placements) (ne_eqb load placement.load n) ∙ later.1, later.2)
]

-- a play that comes to a node which sends one item: what it says there, and what that leads to
pub record Hits (game : GameNumbers) (answer : List ℕ → ℕ) (nodes : List AdvNode) (number : ℕ) (history : List ℕ) (size : ℕ) (placements : List Placement) : Type 0 where
  pub next : Then
  pub is : next_at (load_hit game answer history size) placements ≡ Some next
  pub over : IsOverAtTarget game size (record { load = load_hit game answer history size; next = next })
  pub ready : (child : ℕ) → next ≡ To child → (child < number) × StandsReady game answer nodes child (history ++ size ∷ [])

module _ (pool : Pool) (is_pool : IsPool pool) (answer : List ℕ → ℕ) (algorithm : IsAlgorithm pool.game answer) where
  -- what a node sends can come
  pub ready_packable : (number : ℕ) (history : List ℕ) (node : AdvNode) → slice_get pool.nodes number ≡ Some node → ComesTo pool.game answer history (position_of node)
      → Packable pool.game (history ++ sent_items node.step)
  ready_packable number history node e at =
      Packable-Same pool.game (node.items ++ sent_items node.step) (history ++ sent_items node.step)
      (Same-append node.items history (sent_items node.step) (sent_items node.step) (Same-sym history node.items at.items) (λ z. refl))
      (packable_node pool.format pool.game pool.sizes pool.nodes is_pool.sizes is_pool.follow (suc number) number node (omega arith) e)

  hits_by : (number : ℕ) (history loads items : List ℕ) (size : ℕ) (pack : Option (List (List ℕ))) (placements : List Placement)
      → Met pool.format pool.game pool.sizes (map position_of (take number pool.nodes)) (record { loads = loads; items = items; step = Send size pack placements })
      → Packable pool.game (history ++ size ∷ []) → ComesTo pool.game answer history (record { loads = loads; items = items })
      → Hits pool.game answer pool.nodes number history size placements
  hits_by number history loads items size pack placements m packable at =
      let game = pool.game in
      let load = load_hit game answer history size in
      let here : Position = record { loads = loads; items = items } in
      let earlier = map position_of (take number pool.nodes) in
      let P : (Placement → Type 0) = λ placement. IsOverAtTarget game size placement × LeadsOn earlier here size placement in
      let placed : Contains (map (λ (placement : Placement). placement.load) placements) load =
      subst (λ (xs : List ℕ). Contains xs load) (sym m.placements) (Contains-distinct load loads (hit_is_load game answer algorithm history size packable here at)) in
      let found = next_found P load placements (λ k d l. (m.over k d l, m.child k d l)) placed in
      record {
        next = found.0;
        is = found.1;
        over = found.2.0;
        ready = λ child is.
            let stands : StandsAt earlier child (after here load size) = subst (λ (next : Then). LeadsTo earlier next (after here load size)) is found.2.1 in
            let node = earlier_node pool.nodes number child (after here load size) stands in (
              node.2,
              (
                node.0,
                node.1,
                subst (λ (p : Position). ComesTo game answer (history ++ size ∷ []) p) (sym node.3)
                    (leads_after game answer algorithm history size packable here at),
              ),
            );
      }

  pub hits_at : (number : ℕ) (history : List ℕ) (node : AdvNode) (size : ℕ) (pack : Option (List (List ℕ))) (placements : List Placement)
      → slice_get pool.nodes number ≡ Some node → node.step ≡ Send size pack placements → ComesTo pool.game answer history (position_of node)
      → Hits pool.game answer pool.nodes number history size placements
  hits_at number history node size pack placements e is at =
      hits_by number history node.loads node.items size pack placements
      (subst (λ (step : Step). Met pool.format pool.game pool.sizes (map position_of (take number pool.nodes))
      (record { loads = node.loads; items = node.items; step = step })) is (rules_of pool is_pool number node e))
      (subst (λ (step : Step). Packable pool.game (history ++ sent_items step)) is (ready_packable number history node e at))
      at

  -- one step of a play at a node that sends one item
  goes_by : (number : ℕ) (history : List ℕ) (size : ℕ) (placements : List Placement) (next : Then) (end : ℕ → List ℕ → Option End)
      → ((child : ℕ) → next ≡ To child → (child < number) × StandsReady pool.game answer pool.nodes child (history ++ size ∷ []))
      → GoesOn pool.game answer pool.nodes number (child_of next) (history ++ size ∷ []) end (goes_on end number (history ++ size ∷ []) (Some next))
  goes_by number history size placements Over end ready = refl
  goes_by number history size placements (To child) end ready = let h = ready child refl in (h.0, h.1, refl)

  pub send_step : (number : ℕ) (history : List ℕ) (node : AdvNode) (size : ℕ) (pack : Option (List (List ℕ))) (placements : List Placement)
      → slice_get pool.nodes number ≡ Some node → node.step ≡ Send size pack placements → ComesTo pool.game answer history (position_of node)
      → IsStep pool.game answer pool.nodes number history (option_and_then child_of (next_at (load_hit pool.game answer history size) placements)) (history ++ size ∷ [])
  send_step number history node size pack placements e is at =
      let h = hits_at number history node size pack placements e is at in (
        node,
        e,
        λ end. subst (λ (step : Step). GoesOn pool.game answer pool.nodes number (option_and_then child_of (next_at (load_hit pool.game answer history size) placements))
            (history ++ size ∷ []) end (end_by_step pool.game answer end number history step)) (sym is)
            (subst (λ (next : Option Then). GoesOn pool.game answer pool.nodes number (option_and_then child_of next) (history ++ size ∷ []) end (goes_on end number
            (history ++ size ∷ []) next)) (sym h.is)
            (goes_by number history size placements h.next end h.ready)),
      )

  -- one step of a play at a burst
  pub burst_step : (number : ℕ) (history : List ℕ) (node : AdvNode) (times size : ℕ) (pack : List (List ℕ))
      → slice_get pool.nodes number ≡ Some node → node.step ≡ Burst times size pack
      → IsStep pool.game answer pool.nodes number history None (history ++ replicate times size)
  burst_step number history node times size pack e is =
      (node, e, λ end. subst (λ (step : Step). end_by_step pool.game answer end number history step ≡ Some (end_at (history ++ replicate times size) number)) (sym is) refl)

-- ---- the loop of a play

pub goes_to_child : (game : GameNumbers) (answer : List ℕ → ℕ) (nodes : List AdvNode) (n number child : ℕ) (history items : List ℕ) → number < n
    → IsStep game answer nodes number history (Some child) items → (m : ℕ) × (child < m) × (end_of game answer nodes n number history ≡ end_of game answer nodes m child items)
unfolding end_of
goes_to_child game answer nodes zero number child history items l step = absurd (omega arith)
goes_to_child game answer nodes (suc n) number child history items l step =
    let goes = step.2 (end_of game answer nodes n) in
    (n, omega (arith, goes.0, l), ap (option_and_then (λ (node : AdvNode). end_by_step game answer (end_of game answer nodes n) number history node.step)) step.1 ∙ goes.2)

pub goes_to_end : (game : GameNumbers) (answer : List ℕ → ℕ) (nodes : List AdvNode) (n number : ℕ) (history items : List ℕ) → number < n
    → IsStep game answer nodes number history None items → end_of game answer nodes n number history ≡ Some (end_at items number)
unfolding end_of
goes_to_end game answer nodes zero number history items l step = absurd (omega arith)
goes_to_end game answer nodes (suc n) number history items l step =
    ap (option_and_then (λ (node : AdvNode). end_by_step game answer (end_of game answer nodes n) number history node.step)) step.1 ∙ step.2 (end_of game answer nodes n)

-- before the first item
pub root_ready : (pool : Pool) (answer : List ℕ → ℕ) (root : ℕ) → IsPool pool → IsRoot pool.nodes root → StandsReady pool.game answer pool.nodes root []
root_ready pool answer root p r = (
  r.0,
  r.1,
  subst (λ (position : Position). ComesTo pool.game answer [] position) (sym (empty_is pool.game (position_of r.0)
      (p.follow root r.0 r.1).0.one_each r.2.loads r.2.items)) (ComesTo-empty pool.game answer),
)

-- ---- a size several times

replicate-le : (x size i n : ℕ) → i ≤ n → count x (replicate i size) ≤ count x (replicate n size)
replicate-le x size zero n l = omega arith
replicate-le x size (suc i) zero l = absurd (omega arith)
replicate-le x size (suc i) (suc n) l = omega (arith, replicate-le x size i n (omega arith))

pub times_packable : (game : GameNumbers) (history : List ℕ) (i times size : ℕ) → i < times → Packable game (history ++ replicate times size)
    → Packable game ((history ++ replicate i size) ++ size ∷ [])
times_packable game history i times size l packable =
    Packable-part game ((history ++ replicate i size) ++ size ∷ []) (history ++ replicate times size)
    (λ x. omega (
      arith,
      count-append x (history ++ replicate i size) (size ∷ []),
      count-append x history (replicate i size),
      count-append x history (replicate times size),
      replicate-le x size (suc i) times l,
    ))
    packable

pub times_more : (history : List ℕ) (i size : ℕ) → (history ++ replicate i size) ++ size ∷ [] ≡ history ++ replicate (i + 1) size
times_more history i size = append_assoc history (replicate i size) (size ∷ []) ∙ ap (λ (xs : List ℕ). history ++ xs) (replicate-append-replicate i 1 size)

-- ---- the node that a play comes to

pub ready_at : (game : GameNumbers) (answer : List ℕ → ℕ) (nodes : List AdvNode) (number : ℕ) (items : List ℕ) (node : AdvNode)
    → StandsReady game answer nodes number items → slice_get nodes number ≡ Some node → ComesTo game answer items (position_of node)
ready_at game answer nodes number items node ready e =
    subst (λ (n : AdvNode). ComesTo game answer items (position_of n)) (same_Some ready.0 node (sym ready.1 ∙ e)) ready.2
