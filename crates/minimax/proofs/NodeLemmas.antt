-- The rules of the nodes that a search puts.
use Rattle.std.proofs.Common.{◌≡◌, ℕ, ◌+◌, ◌-◌, ◌<◌, false, Option, Some, None, List, [], ◌∷◌, ◌++◌, map, reverse}
use Rattle.std.proofs.Common.{length, get_or, sym, ap, ◌∙◌, subst, arith}
use Rattle.std.specs.Prelude.{All, Contains, MatchOption}
use Rattle.std.proofs.lemmas.Bool.{false≢true}
use Rattle.std.proofs.lemmas.List.{get_or-map, length-map, get_or-reverse, length-reverse}
use Rattle.std.proofs.lemmas.List.Elements.{All-nil, All-weaker}
use Rattle.items.specs.Game.{GameNumbers}
use Rattle.minimax.specs.declared.space.Space.{Space}
use Rattle.items.specs.Multiset.{put_ascending}
use Rattle.items.specs.Packable.{IsPacking, Packable}
use Rattle.items.proofs.MultisetLemmas.{Same-push_put}
use Rattle.items.proofs.SameLemmas.{Same-sym}
use Rattle.loads.specs.After.{after}
use Rattle.loads.specs.Position.{position, StandsAt}
use Rattle.loads.specs.declared.position.Position.{Position}
use Rattle.packing_witness.proofs.PackableLemmas.{IsPacking-Same, Packable-put_ascending}
use Rattle.packing_witness.proofs.PackingLemmas.{size_of_last, le_room, Packable-from_room}
use Rattle.strategy_text.specs.Spelling.{most_nodes}
use Rattle.strategy_text.specs.declared.node.Act.{Act}
use Rattle.strategy_text.specs.declared.node.Act.TheVariants.{Finish, Reply}
use Rattle.strategy_text.specs.declared.node.AdvNode.{AdvNode}
use Rattle.strategy_text.specs.declared.node.AlgNode.{AlgNode}
use Rattle.strategy_text.specs.declared.node.Entry.{Entry}
use Rattle.strategy_text.specs.declared.node.Format.TheVariants.{One}
use Rattle.strategy_text.specs.declared.node.Placement.{Placement}
use Rattle.strategy_text.specs.declared.node.Step.{Step}
use Rattle.strategy_text.specs.declared.node.Step.TheVariants.{Send}
use Rattle.adversary_graph.specs.Nodes as adversary
use Rattle.node_pool.specs.Terms.{Terms}
use Rattle.adversary_graph.specs.Pools as adversary_pools
use Rattle.adversary_graph.specs.Rules as adversary_rules
use Rattle.algorithm_graph.specs.Nodes as algorithm
use Rattle.algorithm_graph.specs.Pools as algorithm_pools
use Rattle.algorithm_graph.specs.Judging.{node_at}
use Rattle.algorithm_graph.specs.Rules.{MeetsRules, NamesLoad, ReplyToEach}
use Rattle.good_situations.specs.Finish.{Finishes}
use Rattle.minimax.specs.State.{AreOfAll, IsPlain, IsPlayable, IsReply, MayAct, PlacesAll, ReplyToAll}

-- ---- the algorithm's nodes

abbrev sizes_in : List Entry → List ℕ
sizes_in entries = map (λ (entry : Entry). entry.size) entries

-- the sizes of turned entries are the same from the end on
turned_at : (entries : List Entry) (k d : ℕ) → k < length entries
    → get_or (sizes_in (reverse entries)) k d ≡ get_or (sizes_in entries) (length entries - 1 - k) d
turned_at entries k d l =
    let size : Entry → ℕ = λ entry. entry.size in
    let none : Entry = record { size = 0; load = 0; to = 0 } in
    let place : ℕ = length entries - 1 - k in
    let turned = get_or-map size (reverse entries) k none d (omega (arith, length-reverse entries, l)) in
    turned ∙ ap size (get_or-reverse entries k none l) ∙ sym (get_or-map size entries place none d (omega (arith, l)))

length_turned : (entries : List Entry) → length (sizes_in (reverse entries)) ≡ length entries
length_turned entries = length-map (reverse entries) (λ (entry : Entry). entry.size) ∙ length-reverse entries

length_sizes : (entries : List Entry) → length (sizes_in entries) ≡ length entries
length_sizes entries = length-map entries (λ (entry : Entry). entry.size)

All-reverse : {X : Type 0} (P : X → Type 0) (xs : List X) → All P xs → All P (reverse xs)
All-reverse P xs all k d l =
    let within : k < length xs = omega (arith, l, length-reverse xs) in
    subst P (sym (get_or-reverse xs k d within)) (all (length xs - 1 - k) d (omega arith))

replies_to_each : (space : Space) (position : Position) (entries : List Entry) → AreOfAll space position entries
    → ReplyToEach space.game space.sizes position.items (reverse entries)
replies_to_each space position entries all =
    let many = length_sizes entries in
    let turned = length_turned entries in
    let items = position.items in
    record {
      ascending = λ k l.
          let next : length entries - 1 - (k + 1) + 1 ≡ length entries - 1 - k = omega (arith, l, turned) in
          let down = all.sizes.descending (length entries - 1 - (k + 1)) (omega (arith, l, turned, many)) in
          let lower = subst (λ i. get_or (sizes_in entries) i 0 < get_or (sizes_in entries) (length entries - 1 - (k + 1)) 0) next down in
          omega (arith, lower, turned_at entries k 0 (omega (arith, l, turned)), turned_at entries (k + 1) 0 (omega (arith, l, turned)));
      exact = λ size. (
        λ c.
            let within : c.0 < length entries = omega (arith, c.1, turned) in
            let there : Contains (sizes_in entries) size =
            (length entries - 1 - c.0, omega (arith, within, many), sym (turned_at entries c.0 size within) ∙ c.2) in
            let is = (all.sizes.exact size).0 there in
            (is.0, Packable-from_room space.game items all.room size all.is_room is.1 is.2),
        λ h.
            let low = (size_of_last space.game items size h.1).low in
            let high = le_room space.game items all.room size all.is_room h.1 in
            let c = (all.sizes.exact size).1 (h.0, low, high) in
            let within : c.0 < length entries = omega (arith, c.1, many) in
            let place : ℕ = length entries - 1 - c.0 in
            let back : length entries - 1 - place ≡ c.0 = omega (arith, within) in (
              place,
              omega (arith, within, turned),
              turned_at entries place size (omega (arith, within))
                  ∙ ap (λ i. get_or (sizes_in entries) i size) back ∙ c.2,
            ),
      );
    }

pub MayAct-reply : (space : Space) (pool : algorithm_pools.Pool) (position : Position) (entries made : List Entry) → IsPlayable space position → IsPlain space pool
    → length pool.nodes < most_nodes → ReplyToAll space pool.nodes position entries → made ≡ reverse entries → MayAct space pool position (Reply made)
MayAct-reply space pool position entries made p plain few replies e =
    let names = All-reverse (NamesLoad space.game position.loads) entries (All-weaker (IsReply space.game pool.nodes position) _ (λ entry r. r.names) entries replies.each) in
    let leads = All-reverse (λ (entry : Entry). StandsAt (map algorithm.position_of pool.nodes) entry.to (after position entry.load entry.size)) entries
    (All-weaker (IsReply space.game pool.nodes position) _ (λ entry r. r.leads) entries replies.each) in
    subst (λ xs. MayAct space pool position (Reply xs)) (sym e) (record {
      playable = p;
      room = few;
      formed = subst (λ (t : Terms). algorithm.IsOfFormat t.format (Reply (reverse entries))) (sym plain) tt;
      follows = subst (λ (t : Terms). MeetsRules t.game t.sizes (map algorithm.position_of pool.nodes) false (node_at position (Reply (reverse entries)))) (sym plain) (
        p.loads,
        (
          p.items,
          (
            tt,
            (
              tt,
              (
                replies_to_each space position entries replies.of_all,
                (
                  names,
                  (
                    leads,
                    (
                      (λ e. absurd
                          (false≢true e)),
                      tt,
                    ),
                  ),
                ),
              ),
            ),
          ),
        ),
      );
    })

pub MayAct-finish : (space : Space) (pool : algorithm_pools.Pool) (position : Position) → IsPlayable space position → IsPlain space pool
    → length pool.nodes < most_nodes → Finishes space.game position.loads → MayAct space pool position Finish
MayAct-finish space pool position p plain few finishes = record {
  playable = p;
  room = few;
  formed = subst (λ (t : Terms). algorithm.IsOfFormat t.format Finish) (sym plain) tt;
  follows = subst (λ (t : Terms). MeetsRules t.game t.sizes (map algorithm.position_of pool.nodes) false (node_at position Finish)) (sym plain) (
    p.loads,
    (
      p.items,
      (
        finishes,
        (
          tt,
          (
            tt,
            (
              All-nil (NamesLoad space.game position.loads),
              (All-nil (λ (entry : Entry). StandsAt (map algorithm.position_of pool.nodes) entry.to (after position entry.load entry.size)), ((λ e. absurd (false≢true e)), tt)),
            ),
          ),
        ),
      ),
    ),
  );
}

abbrev pub algorithm_node : List ℕ → List ℕ → Act → AlgNode
algorithm_node loads items act = record { loads = loads; items = items; act = act }

-- the node of a position that has the act
pub MayComeNext-act : (space : Space) (pool : algorithm_pools.Pool) (position : Position) (act : Act) (loads items : List ℕ) → loads ≡ position.loads → items ≡ position.items
    → MayAct space pool position act → algorithm_pools.MayComeNext pool (algorithm_node loads items act)
MayComeNext-act space pool position act loads items l i may =
    let e : algorithm_node loads items act ≡ node_at position act = ap (λ xs. algorithm_node xs items act) l ∙ ap (λ xs. algorithm_node position.loads xs act) i in
    subst (algorithm_pools.MayComeNext pool) (sym e) (record { room = may.room; formed = may.formed; follows = may.follows })

-- ---- the adversary's nodes

abbrev pub adversary_node : List ℕ → List ℕ → Step → AdvNode
adversary_node loads items step = record { loads = loads; items = items; step = step }

-- what a packing of the items with the sent one is
abbrev IsPackingWith : GameNumbers → List ℕ → ℕ → Option (List (List ℕ)) → Type 0
IsPackingWith game items size None = ⊥
IsPackingWith game items size (Some bins) = IsPacking game bins (put_ascending size items)

packed : (game : GameNumbers) (loads items : List ℕ) (size : ℕ) (pack : Option (List (List ℕ))) (placements : List Placement)
    → IsPackingWith game items size pack → adversary_rules.IsPacked game One (adversary_node loads items (Send size pack placements))
packed game loads items size None placements h = absurd h
packed game loads items size (Some bins) placements h = record {
  shown = (λ s. tt, λ a. tt);
  holds = IsPacking-Same game bins (put_ascending size items) (items ++ size ∷ []) (Same-sym _ _ (Same-push_put size items)) h;
}

some_packing : (game : GameNumbers) (items : List ℕ) (size : ℕ) (pack : Option (List (List ℕ))) → Packable game (put_ascending size items)
    → MatchOption pack (Packable game (put_ascending size items) → ⊥) (λ bins. IsPacking game bins (put_ascending size items))
    → IsPackingWith game items size pack
some_packing game items size None p h = h p
some_packing game items size (Some bins) p h = h

pub MayComeNext-win : (space : Space) (pool : adversary_pools.Pool) (position : Position) (size : ℕ) (pack : Option (List (List ℕ))) (placements : List Placement)
    (loads items : List ℕ) → loads ≡ position.loads → items ≡ position.items → IsPlayable space position
    → Contains space.sizes size → Packable space.game (position.items ++ size ∷ []) → IsPlain space pool → length pool.nodes < most_nodes
    → PlacesAll space.game (map adversary.position_of pool.nodes) position size placements
    → MatchOption pack (Packable space.game (put_ascending size position.items) → ⊥) (λ bins. IsPacking space.game bins (put_ascending size position.items))
    → adversary_pools.MayComeNext pool (adversary_node loads items (Send size pack placements))
MayComeNext-win space pool position size pack placements loads items l i p sent may plain few places packing =
    let step : Step = Send size pack placements in
    let e : adversary_node loads items step ≡ adversary_node position.loads position.items step =
    ap (λ xs. adversary_node xs items step) l ∙ ap (λ xs. adversary_node position.loads xs step) i in
    let shown = some_packing space.game position.items size pack (Packable-put_ascending space.game position.items size may) packing in
    subst (adversary_pools.MayComeNext pool) (sym e) (record {
      room = few;
      formed = subst (λ (t : Terms). adversary.IsOfFormat t.format step) (sym plain) tt;
      follows = subst (λ (t : Terms). adversary_rules.MeetsRules t.format t.game t.sizes (map adversary.position_of pool.nodes) false
          (adversary_node position.loads position.items step)) (sym plain) (
            p.loads,
            (
              p.items,
              (
                sent,
                (
                  tt,
                  (
                    packed space.game position.loads position.items size pack placements shown,
                    (places.each_load, (places.over, (places.leads, ((λ e. absurd (false≢true e)), tt)))),
                  ),
                ),
              ),
            ),
          );
    })
