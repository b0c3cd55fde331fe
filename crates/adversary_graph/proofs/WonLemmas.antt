-- A node that meets its rules has a position from which the adversary wins.
use Rattle.std.proofs.Common.{◌≡◌, ℕ, zero, suc, ◌+◌, ◌-◌, ◌/◌, ◌<◌, ◌≤◌, Bool, IsTrue, false, List, [], ◌∷◌, ◌++◌, Some, None, length, get_or, take, map, replicate}
use Rattle.std.proofs.Common.{true, arith, ap, sym, ◌∙◌, subst, sum_by, Contains, inl, inr, ◌⊎◌, ⊎_elim, eqb}
use Rattle.std.specs.List.{All, slice_get}
use Rattle.std.proofs.Math.Nat.{div-eq-sub-div}
use Rattle.std.proofs.lemmas.Bool.{cases_lt, eq-eqb, false≢true}
use Rattle.std.proofs.lemmas.List.{get_or-map, length-map, length-replicate}
use Rattle.std.proofs.lemmas.List.Elements.{All-weaker, All-contains, All-append, All-replicate, All-cons, All-nil}
use Rattle.std.proofs.lemmas.List.Sums.{sum_by-cons}
use Rattle.std.proofs.lemmas.Option.{slice_get-map, slice_get-get_or, same_Some, none-some}
use Rattle.items.specs.Game.{GameNumbers}
use Rattle.items.specs.Multiset.{IsSize, put_ascending, sizes_of}
use Rattle.items.specs.Packable.{Packable}
use Rattle.items.proofs.MultisetLemmas.{count-append, count-put_ascending}
use Rattle.packing_witness.proofs.PackableLemmas.{Packable-from_packing, Packable-part, Packable-Same, Packable-front, Packable-from_put_ascending}
use Rattle.loads.specs.After.{after}
use Rattle.loads.specs.Loads.{loads_after}
use Rattle.loads.specs.Position.{position, StandsAt, IsEmptyPosition}
use Rattle.loads.specs.Wins.{Wins, IsWon}
use Rattle.loads.specs.declared.position.Position.{Position}
use Rattle.loads.proofs.DistinctLemmas.{Contains-distinct}
use Rattle.loads.proofs.LoadsLemmas.{sum_by-loads_after}
use Rattle.online_play.specs.Algorithm.{ForcesEvery}
use Rattle.online_play.proofs.WonLemmas.{Wins-more_items, empty_is, won_game_forces}
use Rattle.strategy_text.specs.declared.node.AdvNode.{AdvNode}
use Rattle.strategy_text.specs.declared.node.Format.{Format}
use Rattle.strategy_text.specs.declared.node.Format.TheVariants.{One, Two}
use Rattle.strategy_text.specs.declared.node.Placement.{Placement}
use Rattle.strategy_text.specs.declared.node.Step.{Step}
use Rattle.strategy_text.specs.declared.node.Step.TheVariants.{Send, Burst}
use Rattle.strategy_text.specs.declared.node.Then.{Then}
use Rattle.strategy_text.specs.declared.node.Then.TheVariants.{Over, To}
use Rattle.adversary_graph.specs.Judging.{node_at}
use Rattle.adversary_graph.specs.Laws.{is_one_of}
use Rattle.adversary_graph.specs.Legal.{EachFollows, EachMeetsRules, IsLegal}
use Rattle.adversary_graph.specs.Nodes.{position_of, sent_size, sent_items, placements_of}
use Rattle.adversary_graph.specs.Rules.{MeetsRules, most_below_target, IsLongEnough, PlacesEachLoad, IsOver, IsOverAtTarget, LeadsTo, IsPacked}
use Rattle.std.proofs.lemmas.Cmp.{nat_eq_equiv}
use Rattle.std.proofs.lemmas.Map.Views.{list_any-from_Contains}
use Rattle.items.proofs.ListLemmas.{slice_get-take, mapped}
use Rattle.items.proofs.SizesLemmas.{sizes_are_sizes}

-- ---- wins

-- after one item of a burst one item less can come
pub one_less : (game : GameNumbers) (size load : ℕ) (loads : List ℕ) → 1 ≤ size → Contains loads load → load + size < game.target
    → most_below_target game size (loads_after loads load size) + 1 ≡ most_below_target game size loads
one_less game size load loads low c below =
    let room : (ℕ → ℕ) = λ x. (game.target - 1 - x) / size in
    let first : (game.target - 1 - load) / size ≡ (game.target - 1 - load - size) / size + 1 = div-eq-sub-div (omega arith) (omega arith) in
    let same : game.target - 1 - load - size ≡ game.target - 1 - (load + size) = omega arith in
    let rest : (game.target - 1 - load - size) / size ≡ (game.target - 1 - (load + size)) / size = ap (λ x. x / size) same in
    omega (arith, sum_by-loads_after room loads load size c, first, rest)

-- so many equal items that one must reach the target win
pub burst_wins : (game : GameNumbers) (allowed : List ℕ → ℕ → Bool) (size : ℕ) → ((items : List ℕ) → IsTrue (allowed items size)) → 1 ≤ size
    → (n : ℕ) (p : Position) → most_below_target game size p.loads < n → Packable game (p.items ++ replicate n size) → Wins game allowed n p
unfolding Wins
burst_wins game allowed size may low zero p most packable = absurd (omega arith)
burst_wins game allowed size may low (suc n) p most packable = (
  size,
  record {
    allows = may p.items;
    may_come = Packable-part game (p.items ++ size ∷ []) (p.items ++ replicate (suc n) size) (λ x. omega (
      arith,
      count-append x p.items (size ∷ []),
      count-append x p.items (size ∷ replicate n size),
    )) packable;
    each_load = λ load c. ⊎_elim
        (λ below. inr (burst_wins game allowed size may low n (after p load size) (omega (arith, one_less game size load p.loads low c below))
        (Packable-Same game (p.items ++ replicate (suc n) size) (put_ascending size p.items ++ replicate n size)
        (λ x. omega (
          arith,
          count-append x p.items (size ∷ replicate n size),
          count-append x (put_ascending size p.items) (replicate n size),
          count-put_ascending x size p.items,
        )) packable)))
        (λ reached. inl reached)
        (cases_lt (load + size) game.target);
  },
)

-- ---- nodes before a node

-- the earlier node that stands at a position
pub earlier_node : (nodes : List AdvNode) (k child : ℕ) (p : Position) → StandsAt (map position_of (take k nodes)) child p
    → (node : AdvNode) × (slice_get nodes child ≡ Some node) × (child < k) × (position_of node ≡ p)
earlier_node nodes k child p e =
    let h = mapped position_of (slice_get (take k nodes) child) p (sym (slice_get-map position_of (take k nodes) child) ∙ e) in
    let t = slice_get-take nodes k child h.0 h.1 in
    (h.0, t.0, t.1, h.2)

-- ---- the placement of a load, and one with a child

picked : (P : Placement → Type 0) (placements : List Placement) (load : ℕ) → All P placements → Contains (map (λ (placement : Placement). placement.load) placements) load
    → (placement : Placement) × P placement × (placement.load ≡ load)
picked P placements load all c =
    let none : Placement = record { load = 0; next = Over } in
    let within : c.0 < length placements = omega (arith, c.1, length-map placements (λ (placement : Placement). placement.load)) in
    (get_or placements c.0 none, all c.0 none within, sym (get_or-map (λ (placement : Placement). placement.load) placements c.0 none load within) ∙ c.2)

with_child : (P : Placement → Type 0) (load : ℕ) (next : Then) (placements : List Placement) → P (record { load = load; next = next })
    → ((All (λ placement. IsOver placement.next) placements → ⊥) → (l child : ℕ) × P (record { load = l; next = To child }))
    → (All (λ placement. IsOver placement.next) (record { load = load; next = next } ∷ placements) → ⊥)
    → (l child : ℕ) × P (record { load = l; next = To child })
with_child P load Over placements p others not =
    others (λ all. not (All-cons (λ (placement : Placement). IsOver placement.next) (record { load = load; next = Over }) placements tt all))
with_child P load (To child) placements p others not = (load, child, p)

-- where not each placement is over, one has a child
pub some_child : (P : Placement → Type 0) (placements : List Placement) → All P placements → (All (λ placement. IsOver placement.next) placements → ⊥)
    → (load child : ℕ) × P (record { load = load; next = To child })
some_child P [] all not = absurd (not (All-nil (λ (placement : Placement). IsOver placement.next)))
some_child P (placement ∷ placements) all not =
    with_child P placement.load placement.next placements (all 0 placement (omega arith)) (some_child P placements (λ k d l. all (suc k) d (omega (arith, l)))) not

-- ---- the items of a node with what it sends are packable

-- the items of a node are sizes of the game, and so is what it sends
pub sent_sizes : (game : GameNumbers) (sizes loads items : List ℕ) (step : Step) → All (IsSize game.capacity) sizes
    → All (Contains sizes) items → Contains sizes (sent_size step) → All (IsSize game.capacity) (items ++ sent_items step)
sent_sizes game sizes loads items (Send size pack placements) z a s =
    All-append (IsSize game.capacity) items (size ∷ []) (All-weaker (Contains sizes) (IsSize game.capacity) (λ x c. All-contains (IsSize game.capacity) sizes x z c) items a)
    (All-replicate (IsSize game.capacity) 1 size (All-contains (IsSize game.capacity) sizes size z s))
sent_sizes game sizes loads items (Burst number size pack) z a s =
    All-append (IsSize game.capacity) items (replicate number size) (All-weaker (Contains sizes) (IsSize game.capacity) (λ x c. All-contains
    (IsSize game.capacity) sizes x z c) items a)
    (All-replicate (IsSize game.capacity) number size (All-contains (IsSize game.capacity) sizes size z s))

-- what a node without a packing leads to
pub not_all_over : (game : GameNumbers) (format : Format) (loads items : List ℕ) (size : ℕ) (placements : List Placement)
    → IsPacked game format (node_at (position loads items) (Send size None placements)) → All (λ placement. IsOver placement.next) placements → ⊥
not_all_over game One loads items size placements packed all = packed.shown.1 tt
not_all_over game Two loads items size placements packed all = packed.shown.1 all

packable_step : (game : GameNumbers) (format : Format) (sizes loads items : List ℕ) (step : Step) (earlier : List Position)
    → All (IsSize game.capacity) (items ++ sent_items step)
    → IsPacked game format (node_at (position loads items) step)
    → All (λ placement. LeadsTo earlier placement.next (after (position loads items) placement.load (sent_size step))) (placements_of step)
    → ((child : ℕ) (p : Position) → StandsAt earlier child p → Packable game p.items)
    → Packable game (items ++ sent_items step)
packable_step game format sizes loads items (Send size (Some bins) placements) earlier z packed leads before =
    Packable-from_packing game bins (items ++ size ∷ []) z packed.holds
packable_step game format sizes loads items (Send size None placements) earlier z packed leads before =
    let child = some_child (λ placement. LeadsTo earlier placement.next (after (position loads items) placement.load size)) placements leads
    (not_all_over game format loads items size placements packed) in
    Packable-from_put_ascending game items size (before child.1 (after (position loads items) child.0 size) child.2)
packable_step game format sizes loads items (Burst number size bins) earlier z packed leads before =
    Packable-from_packing game bins (items ++ replicate number size) z packed.holds

-- the rules that are met, by name
pub record Met (format : Format) (game : GameNumbers) (sizes : List ℕ) (earlier : List Position) (node : AdvNode) : Type 0 where
  pub items : All (Contains sizes) node.items
  pub send : Contains sizes (sent_size node.step)
  pub burst : IsLongEnough game node.loads node.step
  pub pack : IsPacked game format node
  pub placements : PlacesEachLoad node.loads node.step
  pub over : All (IsOverAtTarget game (sent_size node.step)) (placements_of node.step)
  pub child : All (λ placement. LeadsTo earlier placement.next (after (position_of node) placement.load (sent_size node.step))) (placements_of node.step)

pub met : (format : Format) (game : GameNumbers) (sizes : List ℕ) (earlier : List Position) (last : Bool) (node : AdvNode) → MeetsRules format game sizes earlier last node
    → Met format game sizes earlier node
met format game sizes earlier last node m = record {
  items = m.1.0.allowed;
  send = m.1.1.0;
  burst = m.1.1.1.0;
  pack = m.1.1.1.1.0;
  placements = m.1.1.1.1.1.0;
  over = m.1.1.1.1.1.1.0;
  child = m.1.1.1.1.1.1.1.0;
}

pub packable_node : (format : Format) (game : GameNumbers) (sizes : List ℕ) (nodes : List AdvNode) → All (IsSize game.capacity) sizes → EachFollows format game sizes nodes
    → (bound k : ℕ) (node : AdvNode) → k < bound → slice_get nodes k ≡ Some node → Packable game (node.items ++ sent_items node.step)
packable_node format game sizes nodes z follows zero k node l e = absurd (omega arith)
packable_node format game sizes nodes z follows (suc bound) k node l e =
    let m = met format game sizes (map position_of (take k nodes)) false node (follows k node e) in
    packable_step game format sizes node.loads node.items node.step (map position_of (take k nodes))
    (sent_sizes game sizes node.loads node.items node.step z m.items m.send) m.pack m.child
    (λ child p stands.
    let h = earlier_node nodes k child p stands in
    let packable = packable_node format game sizes nodes z follows bound child h.0 (omega (arith, h.2, l)) h.1 in
    subst (λ (q : Position). Packable game q.items) h.3 (Packable-front game h.0.items (sent_items h.0.step) packable))

-- ---- the position of a node is won

-- how many items some nodes send
abbrev pub sent_by : List AdvNode → ℕ
sent_by nodes = sum_by (λ node. length (sent_items node.step)) nodes

sent_by-cons : (first : AdvNode) (nodes : List AdvNode) (k : ℕ) → sent_by (take (suc k) (first ∷ nodes)) ≡ length (sent_items first.step) + sent_by (take k nodes)
sent_by-cons first nodes k = sum_by-cons (λ (node : AdvNode). length (sent_items node.step)) first (take k nodes)

sent_by-take : (nodes : List AdvNode) (k : ℕ) (node : AdvNode) → slice_get nodes k ≡ Some node
    → sent_by (take (suc k) nodes) ≡ sent_by (take k nodes) + length (sent_items node.step)
sent_by-take [] k node e = absurd (none-some node e)
sent_by-take (first ∷ nodes) zero node e =
    let count : (AdvNode → ℕ) = λ node. length (sent_items node.step) in
    omega (arith, ap count (same_Some first node e))
sent_by-take (first ∷ nodes) (suc k) node e = omega (arith, sent_by-take nodes k node e, sent_by-cons first nodes (suc k), sent_by-cons first nodes k)

sent_by-le : (nodes : List AdvNode) (i k : ℕ) → i ≤ k → sent_by (take i nodes) ≤ sent_by (take k nodes)
sent_by-le nodes zero k l = omega arith
sent_by-le [] (suc i) k l = omega arith
sent_by-le (node ∷ nodes) (suc i) zero l = absurd (omega arith)
sent_by-le (node ∷ nodes) (suc i) (suc k) l = omega (arith, sent_by-le nodes i k (omega arith), sent_by-cons node nodes i, sent_by-cons node nodes k)

-- what follows at a load
next_won : (game : GameNumbers) (allowed : List ℕ → ℕ → Bool) (n size load : ℕ) (next : Then) (p : Position) (earlier : List Position)
    → IsOverAtTarget game size (record { load = load; next = next }) → LeadsTo earlier next (after p load size)
    → ((child : ℕ) (q : Position) → StandsAt earlier child q → Wins game allowed n q)
    → (game.target ≤ load + size) ⊎ Wins game allowed n (after p load size)
next_won game allowed n size load Over p earlier over leads before = inl (over.0 tt)
next_won game allowed n size load (To child) p earlier over leads before = inr (before child (after p load size) leads)

is_one : (sizes items : List ℕ) (size : ℕ) → Contains sizes size → IsTrue (is_one_of sizes items size)
is_one sizes items size c = list_any-from_Contains {eq = eqb} nat_eq_equiv size sizes c

wins_step : (format : Format) (game : GameNumbers) (sizes loads items : List ℕ) (step : Step) (earlier : List Position) (n : ℕ)
    → All (IsSize game.capacity) sizes
    → Met format game sizes earlier (node_at (position loads items) step) → Packable game (items ++ sent_items step)
    → ((child : ℕ) (p : Position) → StandsAt earlier child p → Wins game (is_one_of sizes) n p)
    → Wins game (is_one_of sizes) (n + length (sent_items step)) (position loads items)
unfolding Wins
wins_step format game sizes loads items (Send size pack placements) earlier n z m packable before =
    let allowed = is_one_of sizes in
    let P : (Placement → Type 0) = λ placement. IsOverAtTarget game size placement × LeadsTo earlier placement.next (after (position loads items) placement.load size) in
    let won : Wins game allowed (suc n) (position loads items) = (
      size,
      record {
        allows = is_one sizes items size m.send;
        may_come = packable;
        each_load = λ load c.
            let h = picked P placements load (λ k d l. (m.over k d l, m.child k d l)) (subst (λ (xs : List ℕ). Contains xs load) (sym m.placements)
            (Contains-distinct load loads c)) in
            let next = next_won game allowed n size h.0.load h.0.next (position loads items) earlier h.1.0 h.1.1 before in
            subst (λ l. (game.target ≤ l + size) ⊎ Wins game allowed n (after (position loads items) l size)) h.2 next;
      },
    ) in
    Wins-more_items game allowed (suc n) (n + 1) (position loads items) (omega arith) won
wins_step format game sizes loads items (Burst number size pack) earlier n z m packable before =
    let low = All-contains (IsSize game.capacity) sizes size z m.send in
    let won = burst_wins game (is_one_of sizes) size (λ items. is_one sizes items size m.send) low.low number (position loads items) m.burst packable in
    Wins-more_items game (is_one_of sizes) number (n + length (replicate number size)) (position loads items) (omega (arith, length-replicate number size)) won

pub wins_node : (format : Format) (game : GameNumbers) (sizes : List ℕ) (nodes : List AdvNode) → All (IsSize game.capacity) sizes → EachFollows format game sizes nodes
    → (bound k : ℕ) (node : AdvNode) → k < bound → slice_get nodes k ≡ Some node → Wins game (is_one_of sizes) (sent_by (take (suc k) nodes)) (position_of node)
wins_node format game sizes nodes z follows zero k node l e = absurd (omega arith)
wins_node format game sizes nodes z follows (suc bound) k node l e =
    let allowed = is_one_of sizes in
    let earlier = map position_of (take k nodes) in
    let m = met format game sizes earlier false node (follows k node e) in
    let packable = packable_node format game sizes nodes z follows (suc bound) k node l e in
    let before = λ (child : ℕ) (p : Position) (stands : StandsAt earlier child p).
    let h = earlier_node nodes k child p stands in
    let won = wins_node format game sizes nodes z follows bound child h.0 (omega (arith, h.2, l)) h.1 in
    let more = Wins-more_items game allowed (sent_by (take (suc child) nodes)) (sent_by (take k nodes)) (position_of h.0) (sent_by-le nodes (suc child) k h.2) won in
    subst (λ (q : Position). Wins game allowed (sent_by (take k nodes)) q) h.3 more in
    let won = wins_step format game sizes node.loads node.items node.step earlier (sent_by (take k nodes)) z m packable before in
    subst (λ n. Wins game allowed n (position_of node)) (sym (sent_by-take nodes k node e)) won

-- ---- legal strategies

-- a node that meets every rule meets every rule but `root`
not_last : (format : Format) (game : GameNumbers) (sizes : List ℕ) (earlier : List Position) (last : Bool) (node : AdvNode)
    → MeetsRules format game sizes earlier last node → MeetsRules format game sizes earlier false node
not_last format game sizes earlier last node m =
    (m.0, (m.1.0, (m.1.1.0, (m.1.1.1.0, (m.1.1.1.1.0, (m.1.1.1.1.1.0, (m.1.1.1.1.1.1.0, (m.1.1.1.1.1.1.1.0, ((λ e. absurd (false≢true e)), tt)))))))))

pub EachFollows-from_legal : (format : Format) (game : GameNumbers) (sizes : List ℕ) (nodes : List AdvNode) → IsLegal format game sizes nodes
    → EachFollows format game sizes nodes
EachFollows-from_legal format game sizes nodes legal k node e =
    not_last format game sizes (map position_of (take k nodes)) (eqb (k + 1) (length nodes)) node (legal.each k node e)

pub legal_nodes_are_won : (format : Format) (game : GameNumbers) (sizes : List ℕ) (nodes : List AdvNode) → All (IsSize game.capacity) sizes
    → IsLegal format game sizes nodes → All (λ node. IsWon game (is_one_of sizes) (position_of node)) nodes
legal_nodes_are_won format game sizes nodes z legal k d l = (
  sent_by (take (suc k) nodes),
  wins_node format game sizes nodes z (EachFollows-from_legal format game sizes nodes legal) (suc k) k (get_or nodes k d) (omega arith)
      (slice_get-get_or nodes k d l),
)

pub legal_strategy_forces : (format : Format) (game : GameNumbers) (nodes : List AdvNode) → IsLegal format game (sizes_of game) nodes → ForcesEvery game
legal_strategy_forces format game nodes legal =
    let k = length nodes - 1 in
    let last : k < length nodes = omega (arith, legal.low) in
    let none : AdvNode = node_at (position [] []) (Burst 0 0 []) in
    let node = get_or nodes k none in
    let here = slice_get-get_or nodes k none last in
    let is_last : eqb (k + 1) (length nodes) ≡ true = eq-eqb (k + 1) (length nodes) (omega arith) in
    let rules = legal.each k node here in
    let root : IsEmptyPosition (position_of node) = rules.1.1.1.1.1.1.1.1.0 is_last in
    let won = legal_nodes_are_won format game (sizes_of game) nodes (sizes_are_sizes game) legal k none last in
    won_game_forces game (is_one_of (sizes_of game)) (subst (λ (p : Position). IsWon game (is_one_of (sizes_of game)) p) (empty_is game
    (position_of node) rules.0.one_each root.loads root.items) won)
