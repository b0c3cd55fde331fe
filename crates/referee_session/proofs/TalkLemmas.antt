-- Talks: what holds after each answer.
use Rattle.std.proofs.Common.{◌≡◌, ℕ, zero, suc, ◌+◌, ◌-◌, ◌<◌, ◌≤◌, List, [], ◌∷◌, ◌++◌, Option, Some, length, get_or, take, replicate, sum}
use Rattle.std.proofs.Common.{refl, ap, sym, ◌∙◌, subst, arith, ⊎_elim, ltb}
use Rattle.std.specs.Prelude.{All, fold, option_map, slice_index}
use Rattle.std.specs.List.{slice_get}
use Rattle.std.specs.Option.{unwrap_or}
use Rattle.std.proofs.Math.Seq.{take-suc, take-length, take-append_seam, get_or-append_seam}
use Rattle.std.proofs.lemmas.Bool.{cases_lt, cond-true, cond-false, lt-ltb, le-ltb}
use Rattle.std.proofs.lemmas.List.{append-nil, length-append, length-replicate, length-take-le, take-append-le, get_or_past}
use Rattle.std.proofs.lemmas.List.Elements.{All-nil, All-push, All-head, All-tail}
use Rattle.std.proofs.lemmas.List.Sums.{sum_by-append, sum_by-cons, fold-append}
use Rattle.std.proofs.lemmas.Option.{same_Some, slice_get_within}
use Rattle.items.specs.Game.{GameNumbers, IsGame}
use Rattle.items.specs.Multiset.{IsSize, Same, count}
use Rattle.items.specs.Packable.{Packable}
use Rattle.items.proofs.SameLemmas.{Same-append}
use Rattle.loads.specs.declared.position.Position.{Position}
use Rattle.online_play.proofs.ListLemmas.{length-le-sum}
use Rattle.online_play.specs.Algorithm.{IsAlgorithm, bins_of, loads_by_bin, run}
use Rattle.online_play.specs.Laws.{ComesTo}
use Rattle.online_play.proofs.PlayLemmas.{bin_total-le-sum, sum_small}
use Rattle.online_play.proofs.RunLemmas.{bins_of-push, get_or-loads_by_bin}
use Rattle.strategy_text.specs.declared.node.AdvNode.{AdvNode}
use Rattle.strategy_text.specs.declared.node.Placement.{Placement}
use Rattle.strategy_text.specs.declared.node.Step.{Step}
use Rattle.strategy_text.specs.declared.node.Step.TheVariants.{Send, Burst}
use Rattle.strategy_text.specs.declared.node.Then.{Then}
use Rattle.strategy_text.specs.declared.node.Then.TheVariants.{Over, To}
use Rattle.adversary_graph.specs.Nodes.{position_of, sent_items, sent_size}
use Rattle.adversary_graph.specs.Play.{load_hit, next_at}
use Rattle.adversary_graph.specs.Pools.{Pool, IsPool, IsRoot}
use Rattle.adversary_graph.specs.Rules.{IsLongEnough}
use Rattle.adversary_graph.proofs.PlayLemmas.{Hits, hits_at, ready_packable, root_ready, times_more, times_packable}
use Rattle.adversary_graph.proofs.PoolLemmas.{rules_of}
use Rattle.referee_session.specs.Talk.{Talk, answered, answered_at, answers_from, due_at, stand_after, stand_at, talk, talk_begins, talk_to, told_next}
use Rattle.referee_session.specs.declared.stand.Stand.{Stand}
use Rattle.referee_session.specs.declared.stand.Stand.TheVariants.{Waits, Ended}

-- ---- the algorithm that answers the bins of a list

pub bins_from_take : (bins items : List ℕ) (n : ℕ) → n ≤ length items → n ≤ length bins → bins_of (answers_from bins) (take n items) ≡ take n bins
bins_from_take bins items zero l m = refl
bins_from_take bins items (suc n) l m =
    let answer = answers_from bins in
    let x = get_or items n 0 in
    let front : List ℕ = take n items in
    let place : length (front ++ x ∷ []) - 1 ≡ n = omega (arith, length-append front (x ∷ []), length-take-le n items (omega arith)) in
    ap (bins_of answer) (take-suc items n 0 (omega arith)) ∙ bins_of-push answer front x
    ∙ ap (λ (xs : List ℕ). xs ++ answer (front ++ x ∷ []) ∷ []) (bins_from_take bins items n (omega arith) (omega arith))
    ∙ ap (λ (k : ℕ). take n bins ++ get_or bins k 0 ∷ []) place
    ∙ sym (take-suc bins n 0 (omega arith))

-- its bins for a list of items are the first bins of the list
pub bins_from : (bins items : List ℕ) → length items ≤ length bins → bins_of (answers_from bins) items ≡ take (length items) bins
bins_from bins items l =
    ap (bins_of (answers_from bins)) (sym (take-length items)) ∙ bins_from_take bins items (length items) (omega arith) l

-- and with more bins they stay the same
pub bins_from_more : (bins more items : List ℕ) → length items ≤ length bins → bins_of (answers_from (bins ++ more)) items ≡ bins_of (answers_from bins) items
bins_from_more bins more items l =
    bins_from (bins ++ more) items (omega (arith, length-append bins more)) ∙ take-append-le (length items) bins more l ∙ sym (bins_from bins items l)

pub from_is_algorithm : (game : GameNumbers) (bins : List ℕ) → 0 < game.bins → All (λ bin. bin < game.bins) bins → IsAlgorithm game (answers_from bins)
from_is_algorithm game bins some below items not_empty packable = ⊎_elim
    (λ l. below (length items - 1) 0 l)
    (λ l. let past = get_or_past bins (length items - 1) 0 l in omega (arith, past, some))
    (cases_lt (length items - 1) (length bins))

comes_with_more : (game : GameNumbers) (bins more history : List ℕ) (position : Position) → length history ≤ length bins
    → ComesTo game (answers_from bins) history position → ComesTo game (answers_from (bins ++ more)) history position
comes_with_more game bins more history position l comes = record {
  packable = comes.packable;
  loads = subst (λ (xs : List ℕ). Same (loads_by_bin game history xs) position.loads) (sym (bins_from_more bins more history l)) comes.loads;
  items = comes.items;
}

-- ---- what holds where a play stands

-- where an item waits, the items before those of its node led to the node's position, and not all of the node's items
-- have their bins; where the play has ended, the items are those of its last node, and packable
abbrev pub IsSoundAt : Pool → List ℕ → List ℕ → Stand → Type 0
IsSoundAt pool items bins (Waits number done) =
    (node : AdvNode) × (history : List ℕ) × (slice_get pool.nodes number ≡ Some node) × ComesTo pool.game (answers_from bins) history (position_of node)
    × (items ≡ history ++ replicate done (sent_size node.step)) × (done < length (sent_items node.step))
IsSoundAt pool items bins (Ended number) =
    (node : AdvNode) × (slice_get pool.nodes number ≡ Some node) × Same items (node.items ++ sent_items node.step) × Packable pool.game items

pub record IsSound (pool : Pool) (t : Talk) : Type 0 where
  pub even : length t.bins ≡ length t.items
  pub below : All (λ bin. bin < pool.game.bins) t.bins
  pub at : IsSoundAt pool t.items t.bins t.stand

some_sent : (game : GameNumbers) (loads : List ℕ) (step : Step) → IsLongEnough game loads step → 0 < length (sent_items step)
some_sent game loads (Send size pack placements) long = omega arith
some_sent game loads (Burst times size pack) long = omega (arith, long, length-replicate times size)

-- a node sends at least one item
pub sends_some : (pool : Pool) → IsPool pool → (number : ℕ) (node : AdvNode) → slice_get pool.nodes number ≡ Some node → 0 < length (sent_items node.step)
sends_some pool p number node is = some_sent pool.game node.loads node.step (rules_of pool p number node is).burst

-- before an item of a node has its bin, it is packable with the items before it
packable_next : (game : GameNumbers) (history items : List ℕ) (done : ℕ) (step : Step) → items ≡ history ++ replicate done (sent_size step) → done < length (sent_items step)
    → Packable game (history ++ sent_items step) → Packable game (items ++ sent_size step ∷ [])
packable_next game history items done (Send size pack placements) so_far left packable =
    let none : done ≡ 0 = omega arith in
    subst (λ (xs : List ℕ). Packable game (xs ++ size ∷ [])) (sym (so_far ∙ ap (λ (n : ℕ). history ++ replicate n size) none ∙ append-nil history)) packable
packable_next game history items done (Burst times size pack) so_far left packable =
    subst (λ (xs : List ℕ). Packable game (xs ++ size ∷ [])) (sym so_far)
    (times_packable game history done times size (omega (arith, left, length-replicate times size)) packable)

-- ---- one more answer

module _ (pool : Pool) (p : IsPool pool) (items bins : List ℕ) (bin number : ℕ) (node : AdvNode) (history : List ℕ) (even : length bins ≡ length items) where
  module _ (below : All (λ b. b < pool.game.bins) bins) (within : bin < pool.game.bins) (is : slice_get pool.nodes number ≡ Some node) where
    module _ (comes : ComesTo pool.game (answers_from bins) history (position_of node)) (short : length history ≤ length bins) where
      all_below : All (λ b. b < pool.game.bins) (bins ++ bin ∷ [])
      all_below = All-push (λ b. b < pool.game.bins) bins bin below within

      algorithm : IsAlgorithm pool.game (answers_from (bins ++ bin ∷ []))
      algorithm = from_is_algorithm pool.game (bins ++ bin ∷ []) (omega (arith, within)) all_below

      comes_on : ComesTo pool.game (answers_from (bins ++ bin ∷ [])) history (position_of node)
      comes_on = comes_with_more pool.game bins (bin ∷ []) history (position_of node) short comes

      all_packable : Packable pool.game (history ++ sent_items node.step)
      all_packable = ready_packable pool p (answers_from (bins ++ bin ∷ [])) algorithm number history node is comes_on

      -- the load that an item hits after just this history
      hit : (size : ℕ) → items ≡ history → load_hit pool.game (answers_from (bins ++ bin ∷ [])) history size ≡ slice_index (loads_by_bin pool.game items bins) bin
      hit size e =
          let answer = answers_from (bins ++ bin ∷ []) in
          let same : bins_of answer history ≡ bins = bins_from (bins ++ bin ∷ []) history (omega (arith, short, length-append bins (bin ∷ [])))
          ∙ ap (λ (n : ℕ). take n (bins ++ bin ∷ [])) (sym (ap length e) ∙ sym even)
          ∙ take-append_seam bins (bin ∷ []) in
          let place : length (history ++ size ∷ []) - 1 ≡ length bins = omega (arith, length-append history (size ∷ []), ap length e, even) in
          let to : answer (history ++ size ∷ []) ≡ bin = ap (λ (k : ℕ). get_or (bins ++ bin ∷ []) k 0) place ∙ get_or-append_seam bins bin [] 0 in
          ap (λ (b : ℕ). get_or (run pool.game answer history) b 0) to ∙ ap (λ (xs : List ℕ). get_or (loads_by_bin pool.game history xs) bin 0) same
          ∙ ap (λ (xs : List ℕ). get_or (loads_by_bin pool.game xs bins) bin 0) (sym e)

      goes_at : (size : ℕ) (placements : List Placement) (next : Then) → items ≡ history → sent_items node.step ≡ size ∷ []
          → (h : Hits pool.game (answers_from (bins ++ bin ∷ [])) pool.nodes number history size placements)
          → h.next ≡ next → IsSoundAt pool (items ++ size ∷ []) (bins ++ bin ∷ []) (stand_at number (Some next))
      goes_at size placements Over e sent h then = (
        node,
        is,
        λ x. ap (λ (xs : List ℕ). count x (xs ++ size ∷ [])) e ∙ Same-append history node.items (size ∷ []) (size ∷ []) comes.items (λ z. refl) x
            ∙ ap (λ (xs : List ℕ). count x (node.items ++ xs)) (sym sent),
        subst (λ (xs : List ℕ). Packable pool.game xs) (ap (λ (xs : List ℕ). history ++ xs) sent ∙ ap (λ (xs : List ℕ). xs ++ size ∷ []) (sym e)) all_packable,
      )
      goes_at size placements (To child) e sent h then =
          let ready = h.ready child then in (
            ready.1.0,
            history ++ size ∷ [],
            ready.1.1,
            ready.1.2,
            ap (λ (xs : List ℕ). xs ++ size ∷ []) e ∙ sym (append-nil (history ++ size ∷ [])),
            sends_some pool p child ready.1.0 ready.1.1,
          )

      -- an item of a node goes to a bin
      told_at : (done : ℕ) (step : Step) → node.step ≡ step → items ≡ history ++ replicate done (sent_size step) → done < length (sent_items step)
          → IsSoundAt pool (items ++ sent_size step ∷ []) (bins ++ bin ∷ []) (stand_after number done (slice_index (loads_by_bin pool.game items bins) bin) step)
      told_at done (Send size pack placements) s so_far left =
          let answer = answers_from (bins ++ bin ∷ []) in
          let none : done ≡ 0 = omega arith in
          let e : items ≡ history = so_far ∙ ap (λ (n : ℕ). history ++ replicate n size) none ∙ append-nil history in
          let h = hits_at pool p answer algorithm number history node size pack placements is s comes_on in
          subst (λ (next : Option Then). IsSoundAt pool (items ++ size ∷ []) (bins ++ bin ∷ []) (stand_at number next))
          (sym h.is ∙ ap (λ (load : ℕ). next_at load placements) (hit size e)) (goes_at size placements h.next e (ap sent_items s) h refl)
      told_at done (Burst times size pack) s so_far left =
          let all : items ++ size ∷ [] ≡ history ++ replicate (done + 1) size = ap (λ (xs : List ℕ). xs ++ size ∷ []) so_far ∙ times_more history done size in
          ⊎_elim
          (λ more.
          let waits = cond-true (ltb (done + 1) times) (Waits number (done + 1)) (Ended number) (lt-ltb (done + 1) times more) in
          subst (IsSoundAt pool (items ++ size ∷ []) (bins ++ bin ∷ [])) (sym waits) (
            node,
            history,
            is,
            comes_on,
            all ∙ ap (λ (step : Step). history ++ replicate (done + 1) (sent_size step)) (sym s),
            subst (λ (step : Step). done + 1 < length (sent_items step)) (sym s) (omega (arith, more, length-replicate times size)),
          ))
          (λ last.
          let whole : done + 1 ≡ times = omega (arith, last, left, length-replicate times size) in
          let full : items ++ size ∷ [] ≡ history ++ sent_items node.step = all ∙ ap (λ (n : ℕ). history ++ replicate n size) whole
          ∙ ap (λ (step : Step). history ++ sent_items step) (sym s) in
          let over = cond-false (ltb (done + 1) times) (Waits number (done + 1)) (Ended number) (le-ltb (done + 1) times last) in
          subst (IsSoundAt pool (items ++ size ∷ []) (bins ++ bin ∷ [])) (sym over) (
            node,
            is,
            λ x. ap (count x) full ∙ Same-append history node.items (sent_items node.step) (sent_items node.step) comes.items (λ z. refl) x,
            subst (λ (xs : List ℕ). Packable pool.game xs) (sym full) all_packable,
          ))
          (cases_lt (done + 1) times)

-- ---- every talk is sound

module _ (pool : Pool) (p : IsPool pool) where
  sound_at : (items bins : List ℕ) (stand : Stand) (bin : ℕ) → length bins ≡ length items → All (λ b. b < pool.game.bins) bins → bin < pool.game.bins
      → IsSoundAt pool items bins stand → IsSound pool (answered_at pool.game pool.nodes (talk_to items bins stand) bin stand)
  sound_at items bins (Ended number) bin even below within at = record { even = even; below = below; at = at }
  sound_at items bins (Waits number done) bin even below within at =
      let t = talk_to items bins (Waits number done) in
      let told = λ (node : Option AdvNode). unwrap_or (option_map (λ (node : AdvNode). told_next pool.game t bin number done node.step) node) t in
      let short : length at.1 ≤ length bins = omega (arith, even, ap length at.4, length-append at.1 (replicate done (sent_size at.0.step))) in
      subst (λ (node : Option AdvNode). IsSound pool (told node)) (sym at.2) (record {
        even = omega (arith, even, length-append bins (bin ∷ []), length-append items (sent_size at.0.step ∷ []));
        below = All-push (λ b. b < pool.game.bins) bins bin below within;
        at = told_at pool p items bins bin number at.0 at.1 even below within at.2 at.3 short done at.0.step refl at.4 at.5;
      })

  sound_next : (t : Talk) (bin : ℕ) → bin < pool.game.bins → IsSound pool t → IsSound pool (answered pool.game pool.nodes t bin)
  sound_next t bin within s = sound_at t.items t.bins t.stand bin s.even s.below within s.at

  sound_from : (bins : List ℕ) (t : Talk) → All (λ b. b < pool.game.bins) bins → IsSound pool t → IsSound pool (fold (answered pool.game pool.nodes) t bins)
  sound_from [] t below s = s
  sound_from (bin ∷ bins) t below s =
      sound_from bins (answered pool.game pool.nodes t bin) (All-tail (λ b. b < pool.game.bins) bin bins below)
      (sound_next t bin (All-head (λ b. b < pool.game.bins) bin bins below) s)

  sound_begins : (root : ℕ) → IsRoot pool.nodes root → IsSound pool (talk_begins root)
  sound_begins root r =
      let ready = root_ready pool (answers_from []) root p r in
      record { even = refl; below = All-nil (λ b. b < pool.game.bins); at = (ready.0, [], ready.1, ready.2, refl, sends_some pool p root ready.0 ready.1) }

  pub talk_sound : (root : ℕ) (bins : List ℕ) → IsRoot pool.nodes root → All (λ b. b < pool.game.bins) bins → IsSound pool (talk pool.game pool.nodes root bins)
  unfolding talk
  talk_sound root bins r below = sound_from bins (talk_begins root) below (sound_begins root r)

-- ---- a talk with one more answer

pub talk-nil : (game : GameNumbers) (nodes : List AdvNode) (root : ℕ) → talk game nodes root [] ≡ talk_begins root
unfolding talk
talk-nil game nodes root = refl

pub talk-push : (game : GameNumbers) (nodes : List AdvNode) (root : ℕ) (bins : List ℕ) (bin : ℕ)
    → talk game nodes root (bins ++ bin ∷ []) ≡ answered game nodes (talk game nodes root bins) bin
unfolding talk
talk-push game nodes root bins bin = fold-append (answered game nodes) (talk_begins root) bins (bin ∷ [])

-- ---- what a session knows

-- an item waits: its node, and that there is room for it
pub record IsWaiting (pool : Pool) (items bins : List ℕ) (number done : ℕ) : Type 0 where
  pub node : AdvNode
  pub is : slice_get pool.nodes number ≡ Some node
  pub number_within : number < length pool.nodes
  pub even : length bins ≡ length items
  pub few : length bins < 960
  pub times : done < 65535
  pub loads : (bin : ℕ) (sent : AdvNode) → slice_get pool.nodes number ≡ Some sent → bin < pool.game.bins
      → get_or (loads_by_bin pool.game items bins) bin 0 + sent_size sent.step < 65536

pub few_packable : (game : GameNumbers) (items : List ℕ) → IsGame game → Packable game items → length items ≤ 960
few_packable game items g packable =
    omega (arith, sum_small game items g packable, length-le-sum game.capacity items packable.1.item_list)

pub waiting : (pool : Pool) (root : ℕ) (items bins : List ℕ) (number done : ℕ) → IsPool pool → IsRoot pool.nodes root → All (λ b. b < pool.game.bins) bins
    → talk pool.game pool.nodes root bins ≡ talk_to items bins (Waits number done) → IsWaiting pool items bins number done
waiting pool root items bins number done p r below e =
    let s = subst (IsSound pool) e (talk_sound pool p root bins r below) in
    let at = s.at in
    let node = at.0 in
    let algorithm = from_is_algorithm pool.game bins (omega (arith, p.of_game.bins.low)) below in
    let all = ready_packable pool p (answers_from bins) algorithm number at.1 node at.2 at.3 in
    let next = packable_next pool.game at.1 items done node.step at.4 at.5 all in
    let total = sum_small pool.game (items ++ sent_size node.step ∷ []) p.of_game next in
    record {
      node = node;
      is = at.2;
      number_within = slice_get_within pool.nodes number node at.2;
      even = s.even;
      few = omega (arith, s.even, few_packable pool.game (items ++ sent_size node.step ∷ []) p.of_game next, length-append items (sent_size node.step ∷ []));
      times = omega (arith, at.5, few_packable pool.game (at.1 ++ sent_items node.step) p.of_game all, length-append at.1 (sent_items node.step));
      loads = λ bin sent is l.
          let load = get_or-loads_by_bin pool.game items bins bin 0 l in
          let same : sent_size node.step ≡ sent_size sent.step = ap (λ (node : AdvNode). sent_size node.step) (same_Some node sent (sym at.2 ∙ is)) in
          omega (arith, load, bin_total-le-sum bin items bins, total, same, sum_by-append (λ x. x) items (sent_size node.step ∷ []));
    }

-- the play has ended: what its packing needs
pub ended : (pool : Pool) (root : ℕ) (items bins : List ℕ) (number : ℕ) → IsPool pool → IsRoot pool.nodes root → All (λ b. b < pool.game.bins) bins
    → talk pool.game pool.nodes root bins ≡ talk_to items bins (Ended number)
    → (node : AdvNode) × (slice_get pool.nodes number ≡ Some node) × Same items (node.items ++ sent_items node.step) × Packable pool.game items
ended pool root items bins number p r below e = (subst (IsSound pool) e (talk_sound pool p root bins r below)).at

-- an answer to the item that waits
pub told : (pool : Pool) (root : ℕ) (items bins : List ℕ) (number done bin : ℕ) (node : AdvNode) → slice_get pool.nodes number ≡ Some node
    → talk pool.game pool.nodes root bins ≡ talk_to items bins (Waits number done)
    → talk pool.game pool.nodes root (bins ++ bin ∷ [])
    ≡ talk_to (items ++ sent_size node.step ∷ []) (bins ++ bin ∷ []) (stand_after number done (slice_index (loads_by_bin pool.game items bins) bin) node.step)
told pool root items bins number done bin node is e =
    let t = talk_to items bins (Waits number done) in
    let next = λ (node : Option AdvNode). unwrap_or (option_map (λ (node : AdvNode). told_next pool.game t bin number done node.step) node) t in
    talk-push pool.game pool.nodes root bins bin ∙ ap (λ (t : Talk). answered pool.game pool.nodes t bin) e ∙ ap next is

-- the item that waits
pub due_waits : (game : GameNumbers) (nodes : List AdvNode) (root : ℕ) (items bins : List ℕ) (number done : ℕ) (node : AdvNode)
    → talk game nodes root bins ≡ talk_to items bins (Waits number done) → slice_get nodes number ≡ Some node
    → due_at nodes (talk game nodes root bins).stand ≡ Some (sent_size node.step)
due_waits game nodes root items bins number done node e is =
    ap (λ (t : Talk). due_at nodes t.stand) e ∙ ap (option_map (λ (node : AdvNode). sent_size node.step)) is
