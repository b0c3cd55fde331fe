-- What a legal strategy with listed sizes shows.
use Rattle.std.proofs.Common.{◌≡◌, ◌≢◌, ◌==◌, ◌⊎◌, ℕ, zero, suc, ◌+◌, ◌-◌, ◌<◌, ◌≤◌, Bool, true, IsTrue, List, [], ◌∷◌, ◌++◌, length, get_or, map, take, All, Contains, sym, ap, ◌∙◌, subst, refl, arith, ⊎_elim, cond, eqb}
use Rattle.std.specs.Prelude.{Any}
use Rattle.std.specs.List.{list_any, slice_get}
use Rattle.std.proofs.lemmas.Bool.{eq-eqb}
use Rattle.std.proofs.lemmas.Map.Views.{Contains-from_any, exact_unsigned_eq}
use Rattle.std.proofs.lemmas.List.Elements.{All-nil, All-push, All-weaker, All-contains}
use Rattle.std.proofs.lemmas.Option.{slice_get-get_or}
use Rattle.items.specs.Game.{GameNumbers}
use Rattle.items.specs.Multiset.{IsSize, sizes_of}
use Rattle.items.specs.Packable.{Packable}
use Rattle.items.proofs.SameLemmas.{Same-push}
use Rattle.items.proofs.SizesLemmas.{Contains_from_size}
use Rattle.packing_witness.proofs.PackableLemmas.{Packable-Same}
use Rattle.items.proofs.MultisetLemmas.{count-sum_by}
use Rattle.items.proofs.MemberLemmas.{Contains-from_count, Contains-Same}
use Rattle.loads.specs.After.{after}
use Rattle.loads.specs.Descending.{take_out}
use Rattle.loads.specs.Loads.{loads_after}
use Rattle.loads.proofs.CountLemmas.{sum_by-put}
use Rattle.loads.specs.Position.{position, IsEmptyPosition}
use Rattle.loads.specs.Wins.{Wins, IsWon, empty_position}
use Rattle.loads.specs.declared.position.Position.{Position}
use Rattle.online_play.specs.Algorithm.{ForcesEvery, IsForcedOn, run}
use Rattle.online_play.specs.Laws.{ComesTo}
use Rattle.online_play.proofs.WonLemmas.{ComesTo-after, ComesTo-empty, empty_is, hit_is_load, load_hit}
use Rattle.strategy_text.specs.declared.node.AdvNode.{AdvNode}
use Rattle.strategy_text.specs.declared.node.Format.{Format}
use Rattle.strategy_text.specs.declared.node.Step.TheVariants.{Burst}
use Rattle.adversary_graph.specs.Judging.{node_at}
use Rattle.adversary_graph.specs.Laws.{is_one_of}
use Rattle.adversary_graph.specs.Legal as adversary
use Rattle.adversary_graph.specs.Nodes.{position_of, sent_size}
use Rattle.adversary_graph.specs.Rules.{MeetsRules}
use Rattle.adversary_graph.proofs.WonLemmas.{legal_nodes_are_won, legal_strategy_forces}
use Rattle.algorithm_graph.proofs.BelowLemmas.{replay_stays_below}
use Rattle.algorithm_graph.proofs.ReplayLemmas.{runs_are_replays}
use Rattle.algorithm_graph.specs.Replies.{replies, replayed}
use Rattle.listed_sizes.specs.Laws.{IsListedAlgorithm, ListedForced, LegalListedStrategiesForce, ListedAdversariesAreLegal, ListedAdversariesForceEvery, LegalListedRepliesKeepBelow}

-- ---- from a won position each algorithm is forced, by the listed sizes alone

-- the load that an item grows to is there after it
grown_is_there : (loads : List ℕ) (load size : ℕ) → Contains (loads_after loads load size) (load + size)
grown_is_there loads load size =
    let grown : ℕ = load + size in
    let f : ℕ → ℕ = λ y. cond (eqb grown y) 1 0 in
    let one : f grown ≡ 1 = ap (λ (b : Bool). cond b 1 0) (eq-eqb grown grown refl) in
    Contains-from_count grown (loads_after loads load size) (omega (arith, count-sum_by grown (loads_after loads load size), sum_by-put f grown (take_out load loads), one))

reached_from : (target x : ℕ) (loads : List ℕ) → Contains loads x → target ≤ x → Any (λ load. target ≤ load) loads
reached_from target x loads c h = (c.0, x, c.1, c.2, h)

not_empty : (items : List ℕ) (item : ℕ) → items ++ item ∷ [] ≡ [] → ⊥
not_empty [] item e = cc
not_empty (x ∷ items) item e = cc

won_listed_forces : (game : GameNumbers) (sizes : List ℕ) (answer : List ℕ → ℕ) → IsListedAlgorithm game sizes answer → (n : ℕ) (history : List ℕ) (position : Position)
    → ComesTo game answer history position → All (Contains sizes) history → Wins game (is_one_of sizes) n position → ListedForced game sizes answer
unfolding Wins
won_listed_forces game sizes answer algorithm zero history position at listed wins = absurd wins
won_listed_forces game sizes answer algorithm (suc n) history position at listed wins =
    let size = wins.0 in
    let items : List ℕ = history ++ size ∷ [] in
    let one : Contains sizes size = Contains-from_any exact_unsigned_eq size sizes wins.1.allows in
    let listed' : All (Contains sizes) items = All-push (Contains sizes) history size listed one in
    let packable : Packable game items = Packable-Same game (position.items ++ size ∷ []) items (λ x. sym (Same-push history position.items size at.items x)) wins.1.may_come in
    let within : answer items < game.bins = algorithm items (not_empty history size) packable listed' in
    let hit = load_hit game answer history position size at in
    let next = ComesTo-after game answer history position size at packable within in
    ⊎_elim
    (λ reached. (
      items,
      record {
        packable = packable;
        reached = reached_from game.target (hit + size) (run game answer items) (Contains-Same (hit + size) (loads_after position.loads hit size) (run game answer items)
            (λ x. sym (next.loads x)) (grown_is_there position.loads hit size)) reached;
      },
      listed',
    ))
    (λ won. won_listed_forces game sizes answer algorithm n items (after position hit size) next listed' won)
    (wins.1.each_load hit (hit_is_load game answer history position size at within))

-- ---- legal strategies

pub legal_listed_forces : LegalListedStrategiesForce
legal_listed_forces format game sizes nodes z legal answer algorithm =
    let k = length nodes - 1 in
    let last : k < length nodes = omega (arith, legal.low) in
    let none : AdvNode = node_at (position [] []) (Burst 0 0 []) in
    let node = get_or nodes k none in
    let is_last : eqb (k + 1) (length nodes) ≡ true = eq-eqb (k + 1) (length nodes) (omega arith) in
    let rules = legal.each k node (slice_get-get_or nodes k none last) in
    let root : IsEmptyPosition (position_of node) = rules.1.1.1.1.1.1.1.1.0 is_last in
    let won = legal_nodes_are_won format game sizes nodes z legal k none last in
    let first : IsWon game (is_one_of sizes) (empty_position game) = subst (λ (p : Position). IsWon game (is_one_of sizes) p) (empty_is game
    (position_of node) rules.0.one_each root.loads root.items) won in
    won_listed_forces game sizes answer algorithm first.0 [] (empty_position game) (ComesTo-empty game answer) (All-nil (Contains sizes)) first.1

-- a size of the list is a size of the game
in_game : (game : GameNumbers) (sizes : List ℕ) (size : ℕ) → All (IsSize game.capacity) sizes → Contains sizes size → Contains (sizes_of game) size
in_game game sizes size z c = Contains_from_size game.capacity size (All-contains (IsSize game.capacity) sizes size z c)

-- a node that meets every rule over listed sizes meets them over all sizes of the game
meets_wider : (format : Format) (game : GameNumbers) (sizes : List ℕ) (earlier : List Position) (last : Bool) (node : AdvNode) → All (IsSize game.capacity) sizes
    → MeetsRules format game sizes earlier last node → MeetsRules format game (sizes_of game) earlier last node
meets_wider format game sizes earlier last node z m = (
  m.0,
  (
    record {
      ascending = m.1.0.ascending;
      allowed = All-weaker (Contains sizes) (Contains (sizes_of game)) (λ x c. in_game game sizes x z c) node.items m.1.0.allowed;
      total = m.1.0.total;
    },
    (in_game game sizes (sent_size node.step) z m.1.1.0, m.1.1.1),
  ),
)

pub listed_is_legal : ListedAdversariesAreLegal
listed_is_legal format game sizes nodes z legal = record {
  of_game = legal.of_game;
  low = legal.low;
  high = legal.high;
  formed = legal.formed;
  each = λ k node e. meets_wider format game sizes (map position_of (take k nodes)) (k + 1 == length nodes) node z (legal.each k node e);
}

pub listed_forces_every : ListedAdversariesForceEvery
listed_forces_every format game sizes nodes z legal = legal_strategy_forces format game nodes (listed_is_legal format game sizes nodes z legal)

pub listed_replies_keep_below : LegalListedRepliesKeepBelow
listed_replies_keep_below format game sizes nodes legal items packable listed =
    subst (All (λ load. load < game.target)) (sym (runs_are_replays game nodes items legal.of_game)) (replay_stays_below format game sizes nodes legal items packable listed)
