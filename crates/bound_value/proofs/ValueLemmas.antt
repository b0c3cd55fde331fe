-- What strategies of both sides, one target apart, say of the value.
use Rattle.std.proofs.Common.{◌≡◌, ℕ, ◌+◌, ◌-◌, ◌*◌, ◌<◌, ◌≤◌, List, [], ◌∷◌, replicate, take, max, Option, Some, None, refl, ap, ◌∙◌, subst, ⊎_elim, lt_of_not-le, arith}
use Rattle.std.specs.Prelude.{sum_by}
use Rattle.std.proofs.Common.{◌^◌}
use Rattle.std.proofs.Math.Nat.{mul-le-mul_left}
use Rattle.std.proofs.lemmas.Bool.{cases_lt}
use Rattle.std.specs.Prelude.{MatchResult, Result, Ok, Err, IfOk}
use Rattle.std.specs.declared.alloc.AllocError.{AllocError}
use Rattle.std.proofs.lemmas.Bool.{false≢true}
use Rattle.std.proofs.lemmas.List.{get_or-replicate, length-replicate, take-replicate}
use Rattle.std.proofs.lemmas.List.Folds.{sum_by-replicate}
use Rattle.std.proofs.lemmas.List.Elements.{All-nil, All-replicate}
use Rattle.items.specs.GameFaults.{IsFaultOf}
use Rattle.items.specs.declared.game.GameFault.{GameFault}
use Rattle.items.specs.Game.{GameNumbers, HasBins, HasCapacity, HasTarget, IsGame, numbers}
use Rattle.items.specs.Multiset.{sizes_of}
use Rattle.loads.specs.Loads.{IsLoads}
use Rattle.loads.specs.Position.{AreItemsOf, StandsAt}
use Rattle.loads.specs.After.{after}
use Rattle.loads.specs.Wins.{IsWon, empty_position}
use Rattle.good_situations.specs.Finish.{Finishes}
use Rattle.online_play.specs.Algorithm.{ForcesEvery, IsAlgorithm, KeepsBelow}
use Rattle.online_play.proofs.WonLemmas.{forced_not_below}
use Rattle.strategy_text.specs.declared.node.Act.TheVariants.{Finish}
use Rattle.strategy_text.specs.declared.node.AlgNode.{AlgNode}
use Rattle.strategy_text.specs.declared.node.Format.{Format}
use Rattle.strategy_text.specs.declared.node.Format.TheVariants.{One}
use Rattle.strategy_text.specs.declared.node.Nodes.{Nodes}
use Rattle.strategy_text.specs.declared.node.Nodes.TheVariants as sides
use Rattle.strategy_text.specs.declared.node.Strategy.{Strategy}
use Rattle.adversary_graph.specs.Pools as adversary_pools
use Rattle.adversary_graph.proofs.WonLemmas.{legal_strategy_forces}
use Rattle.algorithm_graph.specs.Legal.{IsLegal, IsNodeOfFormat, MeetsRulesUnder}
use Rattle.algorithm_graph.specs.Nodes.{position_of}
use Rattle.algorithm_graph.specs.Pools.{MayComeNext, pool_of}
use Rattle.items.proofs.SizesLemmas.{sizes_are_sizes}
use Rattle.node_pool.specs.Pools.{nodes_up_to}
use Rattle.node_pool.specs.Terms.{whole_game as whole_terms}
use Rattle.node_pool.proofs.PoolLemmas.{IsPool-nil, IsPool-push}
use Rattle.algorithm_graph.specs.Rules.{NamesLoad}
use Rattle.algorithm_graph.proofs.PoolLemmas.{IsLegal-from_pool}
use Rattle.strategy_text.specs.declared.node.Entry.{Entry}
use Rattle.algorithm_graph.specs.Pools as algorithm_pools
use Rattle.algorithm_graph.specs.Replies.{replies}
use Rattle.algorithm_graph.proofs.BelowLemmas.{legal_replies_keep_below}
use Rattle.algorithm_graph.proofs.ReplayLemmas.{replies_are_an_algorithm}
use Rattle.monotone.specs.Passes.{allowed_in, whole_game}
use Rattle.monotone.specs.Positions.{CountsAllReachable}
use Rattle.monotone.specs.Visits.{most_visits}
use Rattle.monotone.specs.declared.path.PathMove.{PathMove}
use Rattle.monotone.proofs.ReachableLemmas.{reachable_positions_are_counted}
use Rattle.minimax.specs.Answers.{IsAnswer, IsFor}
use Rattle.minimax.specs.Answers as answers
use Rattle.minimax.proofs.RootLemmas.{AreItemsOf-empty}
use Rattle.minimax.specs.Budgets.{AreNumbersOfReachable, HasRoom, IsOfAdversary, reachable_before}
use Rattle.minimax.specs.declared.answer.Answer.{Answer}
use Rattle.minimax.specs.declared.answer.Answer.TheVariants.{Adversary, Algorithm, Undecided}
use Rattle.bound_value.specs.Answers.{FallsShort, IsOpenAt, IsShownAt, IsShownNowhere, ShowsForced, ShowsKept}
use Rattle.bound_value.specs.Laws.{OneValue, TwiceTheCapacityIsKept, ValuesAreBelowTwice, ValuesSplitTargets}
use Rattle.bound_value.specs.Targets.{FallsShortIfUndecided, IsFoundBelow}
use Rattle.bound_value.specs.Values.{IsForced}
use Rattle.bound_value.proofs.TargetLemmas.{all_reachable_positions_grow_with_the_target, lower_targets_are_forced}

-- a legal strategy of the adversary forces every algorithm
legal_forces : (format : Format) (game : GameNumbers) (nodes : Nodes) → adversary_pools.AreLegal format game nodes → ForcesEvery game
legal_forces format game (sides.Adversary nodes) legal = legal_strategy_forces format game nodes legal
legal_forces format game (sides.Algorithm nodes) legal = absurd legal

pub shown_forces : (game : GameNumbers) (budget : ℕ) (strategy : Strategy) → ShowsForced game budget strategy → ForcesEvery game
shown_forces game budget strategy shows = subst ForcesEvery shows.for_game.of_game (legal_forces strategy.format strategy.game strategy.nodes shows.legal)

-- an algorithm that keeps below the target
abbrev pub IsKept : GameNumbers → Type 0
IsKept game = (answer : List ℕ → ℕ) × IsAlgorithm game answer × KeepsBelow game answer

-- a legal strategy of the algorithm is one
nodes_keep : (format : Format) (game : GameNumbers) (nodes : List AlgNode) → IsLegal format game (sizes_of game) nodes → IsKept game
nodes_keep format game nodes legal = (replies game nodes, replies_are_an_algorithm game nodes legal.of_game, legal_replies_keep_below format game nodes legal)

legal_keeps : (format : Format) (game : GameNumbers) (nodes : Nodes) → algorithm_pools.AreLegal format game nodes → IsKept game
legal_keeps format game (sides.Algorithm nodes) legal = nodes_keep format game nodes legal
legal_keeps format game (sides.Adversary nodes) legal = absurd legal

pub shown_keeps : (game : GameNumbers) (budget : ℕ) (strategy : Strategy) → ShowsKept game budget strategy → IsKept game
shown_keeps game budget strategy shows = subst IsKept shows.for_game.of_game (legal_keeps strategy.format strategy.game strategy.nodes shows.legal)

-- where an algorithm keeps below the target, not every one is forced
pub kept_not_forced : (game : GameNumbers) → IsKept game → ForcesEvery game → ⊥
kept_not_forced game kept forces = forced_not_below game kept.0 (forces kept.0 kept.1) kept.2

-- ---- twice the capacity

one_bin_more : (n capacity : ℕ) → 1 ≤ capacity → (n + 1) * capacity ≤ n * capacity + (2 * capacity - 1)
one_bin_more n capacity large = omega (arith, large)

module _ (bins capacity : ℕ) (has_bins : HasBins bins) (has_capacity : HasCapacity capacity) where
  game_of_twice : IsGame (numbers bins capacity (2 * capacity))
  game_of_twice = record {
    bins = has_bins;
    capacity = has_capacity;
    target = record { low = omega (arith, has_capacity.low); high = omega arith };
  }

  only_node : AlgNode
  only_node = record { loads = replicate bins 0; items = []; act = Finish }

  empty_loads : IsLoads (numbers bins capacity (2 * capacity)) (replicate bins 0)
  empty_loads = record {
    one_each = length-replicate bins 0;
    descending = λ k l. let n = length-replicate {A = ℕ} bins 0 in
        omega (arith, get_or-replicate {A = ℕ} bins k 0 0 (omega (arith, l, n)), get_or-replicate {A = ℕ} bins (k + 1) 0 0 (omega (arith, l, n)));
    below_target = All-replicate (λ load. load < 2 * capacity) bins 0 (omega (arith, has_capacity.low));
  }

  no_items : AreItemsOf (sizes_of (numbers bins capacity (2 * capacity))) (replicate bins 0) []
  no_items = AreItemsOf-empty (sizes_of (numbers bins capacity (2 * capacity))) bins

  finishes : Finishes (numbers bins capacity (2 * capacity)) (replicate bins 0)
  finishes =
      let floor : ℕ = 2 * capacity - capacity in
      let raise = λ (load : ℕ). max load floor in
      let first : take (bins - 1) (replicate {A = ℕ} bins 0) ≡ replicate {A = ℕ} (bins - 1) 0 = take-replicate {X = ℕ} (bins - 1) bins 0 (omega arith) in
      let raised : sum_by raise (take (bins - 1) (replicate {A = ℕ} bins 0)) ≡ (bins - 1) * max 0 floor = ap (sum_by raise) first ∙ sum_by-replicate raise (bins - 1) 0 in
      let each : (bins - 1) * max 0 floor ≡ (bins - 1) * capacity = ap (λ (k : ℕ). (bins - 1) * k) (omega arith) in
      let all : bins * capacity ≡ (bins - 1 + 1) * capacity = ap (λ (k : ℕ). k * capacity) (omega (arith, has_bins.low)) in
      omega (arith, raised, each, all, one_bin_more (bins - 1) capacity has_capacity.low)

  follows : MayComeNext (pool_of One (numbers bins capacity (2 * capacity)) []) only_node
  unfolding only_node
  follows = record {
    room = omega arith;
    formed = tt;
    follows = (
      empty_loads,
      (
        no_items,
        (
          finishes,
          (
            tt,
            (
              tt,
              (
                All-nil (NamesLoad (numbers bins capacity (2 * capacity)) (replicate bins 0)),
                (All-nil (λ (entry : Entry). StandsAt [] entry.to (after (position_of only_node) entry.load entry.size)), ((λ e. absurd (false≢true e)), tt)),
              ),
            ),
          ),
        ),
      ),
    );
  }

  -- the algorithm may finish at once
  pub twice_is_kept : IsKept (numbers bins capacity (2 * capacity))
  unfolding only_node
  twice_is_kept =
      let game = numbers bins capacity (2 * capacity) in
      let none = IsPool-nil position_of IsNodeOfFormat MeetsRulesUnder (whole_terms One game) (record { of_game = game_of_twice; sizes = sizes_are_sizes game }) in
      let pool = IsPool-push position_of IsNodeOfFormat MeetsRulesUnder (pool_of One game []) only_node none follows in
      nodes_keep One game (nodes_up_to 0 (only_node ∷ []))
      (IsLegal-from_pool (pool_of One game (only_node ∷ [])) 0 pool refl
      (only_node, refl, record { loads = All-replicate (λ load. load ≡ 0) bins 0 refl; items = refl }))

pub twice_the_capacity_is_kept : TwiceTheCapacityIsKept
twice_the_capacity_is_kept bins capacity has_bins has_capacity = twice_is_kept bins capacity has_bins has_capacity

-- ---- values

-- where an algorithm keeps below a target, no higher one is forced
pub none_from_kept : (bins capacity target larger : ℕ) → capacity < target → IsKept (numbers bins capacity target) → target ≤ larger → IsForced bins capacity larger → ⊥
none_from_kept bins capacity target larger above kept le forced =
    kept_not_forced (numbers bins capacity target) kept (lower_targets_are_forced bins capacity target larger above le forced).forces

pub one_value : OneValue
one_value bins capacity None None is other = refl
one_value bins capacity None (Some target) is other = absurd (is target other.forced)
one_value bins capacity (Some target) None is other = absurd (other target is.forced)
one_value bins capacity (Some one) (Some two) is other =
    ⊎_elim (λ below. absurd (is.greatest two below other.forced))
    (λ above. ⊎_elim (λ below. absurd (other.greatest one below is.forced)) (λ not_above. ap Some (omega (arith, above, not_above))) (cases_lt two one))
    (cases_lt one two)

pub values_split_targets : ValuesSplitTargets
values_split_targets bins capacity value target is above le = lower_targets_are_forced bins capacity target value above le is.forced

pub values_are_below_twice : ValuesAreBelowTwice
values_are_below_twice bins capacity value has_bins has_capacity is =
    ⊎_elim (λ below. below)
    (λ not_below. absurd (none_from_kept bins capacity (2 * capacity) value (omega (arith, has_capacity.low))
    (twice_is_kept bins capacity has_bins has_capacity) (omega (arith, not_below)) is.forced))
    (cases_lt value (2 * capacity))

-- ---- what strategies show

game_of_legal : (format : Format) (game : GameNumbers) (nodes : Nodes) → algorithm_pools.AreLegal format game nodes → IsGame game
game_of_legal format game (sides.Algorithm nodes) legal = legal.of_game
game_of_legal format game (sides.Adversary nodes) legal = absurd legal

shown_game : (game : GameNumbers) (budget : ℕ) (strategy : Strategy) → ShowsKept game budget strategy → IsGame game
shown_game game budget strategy shows = subst IsGame shows.for_game.of_game (game_of_legal strategy.format strategy.game strategy.nodes shows.legal)

module _ (bins capacity budget target : ℕ) where
  -- a strategy of the algorithm, and one of the adversary for the target before
  pub shown_at : (adversary algorithm : Strategy) → IsFoundBelow bins capacity budget target (Some adversary) → ShowsKept (numbers bins capacity target) budget algorithm
      → IsShownAt bins capacity budget (target - 1) adversary algorithm
  shown_at adversary algorithm below shows =
      let next : target ≡ target - 1 + 1 = omega (arith, below.0) in
      let game = shown_game (numbers bins capacity target) budget algorithm shows in
      record {
        adversary_wins = below.1;
        algorithm_wins = subst (λ t. ShowsKept (numbers bins capacity t) budget algorithm) next shows;
        is_value = record {
          forced = record {
            of_game = record { low = omega (arith, below.0); high = omega (arith, game.target.high) };
            forces = shown_forces (numbers bins capacity (target - 1)) budget adversary below.1;
          };
          greatest = λ larger above. none_from_kept bins capacity target larger game.target.low (shown_keeps (numbers bins capacity target) budget algorithm shows)
              (omega (arith, above, next));
        };
      }

  -- a strategy of the algorithm for the least target
  pub shown_nowhere : (algorithm : Strategy) → IsFoundBelow bins capacity budget target None → ShowsKept (numbers bins capacity target) budget algorithm
      → IsShownNowhere bins capacity budget algorithm
  shown_nowhere algorithm least shows =
      let least_shows = subst (λ t. ShowsKept (numbers bins capacity t) budget algorithm) least shows in
      record {
        algorithm_wins = least_shows;
        no_value = λ larger forced. none_from_kept bins capacity (capacity + 1) larger (omega arith)
            (shown_keeps (numbers bins capacity (capacity + 1)) budget algorithm least_shows) (omega (arith, forced.of_game.low)) forced;
      }

  forced_below : (below : Option Strategy) → IsFoundBelow bins capacity budget target below → capacity + 1 < target → ForcesEvery (numbers bins capacity (target - 1))
  forced_below None least above = absurd (omega (arith, least, above))
  forced_below (Some strategy) found above = shown_forces (numbers bins capacity (target - 1)) budget strategy found.1

  -- a visit that was due
  pub open_at : (below : Option Strategy) (visits pass : ℕ) (path : List PathMove) → HasTarget capacity target → IsFoundBelow bins capacity budget target below
      → IsAnswer (numbers bins capacity target) budget (Undecided visits pass path) → IsOpenAt bins capacity budget target visits pass path
  open_at below visits pass path of_game found answer = record { of_game = of_game; spent = answer.0; due = answer.1; forced_below = forced_below below found }

-- a strategy of the adversary for a target, at the next one
pub found_next : (bins capacity budget target : ℕ) (strategy : Strategy) → HasTarget capacity target → ShowsForced (numbers bins capacity target) budget strategy
    → IsFoundBelow bins capacity budget (target + 1) (Some strategy)
found_next bins capacity budget target strategy of_game shows =
    let here : target ≡ target + 1 - 1 = omega arith in
    (omega (arith, of_game.low), subst (λ t. ShowsForced (numbers bins capacity t) budget strategy) here shows)

-- the game that was made of numbers
pub made_game : (made : GameNumbers) (result : Result GameNumbers GameFault) (game : GameNumbers)
    → MatchResult result (λ (new : GameNumbers). (new ≡ made) × IsGame made) (IsFaultOf made) → result ≡ Ok game → (game ≡ made) × IsGame made
made_game made result game exact is = subst (λ (r : Result GameNumbers GameFault). MatchResult r (λ (new : GameNumbers). (new ≡ made) × IsGame made) (IsFaultOf made)) is exact

-- past twice the capacity nothing is found
pub none_past_twice : (bins capacity budget target : ℕ) (below : Option Strategy) → HasBins bins → HasCapacity capacity → target ≡ 2 * capacity + 1
    → IsFoundBelow bins capacity budget target below → ⊥
none_past_twice bins capacity budget target None has_bins has_capacity past least = omega (arith, past, least, has_capacity.low)
none_past_twice bins capacity budget target (Some strategy) has_bins has_capacity past found =
    let twice : target - 1 ≡ 2 * capacity = omega (arith, past) in
    kept_not_forced (numbers bins capacity (2 * capacity)) (twice_is_kept bins capacity has_bins has_capacity)
    (subst (λ t. ForcesEvery (numbers bins capacity t)) twice (shown_forces (numbers bins capacity (target - 1)) budget strategy found.1))

-- ---- budgets

module _ (game : GameNumbers) (budget room : ℕ) where
  -- what decides a game, and what then doesn't
  short_answer : (answer : Answer) → (most_visits (whole_game game) ≤ budget → answers.IsDecided answer)
      → ((all : ℕ) → CountsAllReachable game all → all ≤ room → game.capacity * all ≤ budget → answers.IsDecided answer)
      → ((numbers : ℕ → ℕ) → AreNumbersOfReachable game numbers → HasRoom game room → reachable_before numbers game.capacity ≤ budget → answers.IsDecided answer)
      → ((numbers : ℕ → ℕ) (pass : ℕ) → AreNumbersOfReachable game numbers → HasRoom game room → IsWon game (allowed_in (sizes_of game) pass) (empty_position game)
      → reachable_before numbers (pass + 1) ≤ budget → IsOfAdversary answer)
      → FallsShortIfUndecided game budget room answer
  short_answer (Adversary strategy) many all each won = tt
  short_answer (Algorithm strategy) many all each won = tt
  short_answer (Undecided visits pass path) many all each won = record {
    all_visits = lt_of_not-le many;
    all_positions = λ number counts within. lt_of_not-le (all number counts within);
    each_pass = λ numbers are has_room. lt_of_not-le (each numbers are has_room);
    won_pass = λ numbers passed are has_room wins. lt_of_not-le (won numbers passed are has_room wins);
  }

  pub short_result : (result : Result Answer AllocError) → (most_visits (whole_game game) ≤ budget → IfOk result answers.IsDecided)
      → ((all : ℕ) → CountsAllReachable game all → all ≤ room → game.capacity * all ≤ budget → IfOk result answers.IsDecided)
      → ((numbers : ℕ → ℕ) → AreNumbersOfReachable game numbers → HasRoom game room → reachable_before numbers game.capacity ≤ budget → IfOk result answers.IsDecided)
      → ((numbers : ℕ → ℕ) (pass : ℕ) → AreNumbersOfReachable game numbers → HasRoom game room → IsWon game (allowed_in (sizes_of game) pass) (empty_position game)
      → reachable_before numbers (pass + 1) ≤ budget → IfOk result IsOfAdversary)
      → IfOk result (FallsShortIfUndecided game budget room)
  short_result (Ok answer) many all each won = short_answer answer many all each won
  short_result (Err error) many all each won = tt

-- a budget of all visits does not fall short
pub enough_visits : (bins capacity target budget table : ℕ) → FallsShort (numbers bins capacity target) budget table → capacity * (bins + 1) ^ (bins * capacity) ≤ budget → ⊥
enough_visits bins capacity target budget table short enough =
    let passes : (capacity - 0) * (bins + 1) ^ (bins * capacity) ≡ capacity * (bins + 1) ^ (bins * capacity) = ap (λ k. k * (bins + 1) ^ (bins * capacity)) (omega arith) in
    omega (arith, short.all_visits, passes, enough)

-- and none for all positions at twice the capacity
pub enough_positions : (bins capacity target budget table all : ℕ) → target ≤ 2 * capacity → FallsShort (numbers bins capacity target) budget table
    → CountsAllReachable (numbers bins capacity (2 * capacity)) all → all ≤ table → capacity * all ≤ budget → ⊥
enough_positions bins capacity target budget table all within short counts room enough =
    let here = reachable_positions_are_counted (numbers bins capacity target) (allowed_in (sizes_of (numbers bins capacity target)) (capacity - 1)) in
    let fewer : here.0 ≤ all = all_reachable_positions_grow_with_the_target bins capacity target (2 * capacity) here.0 all within here.1 counts in
    let product : capacity * here.0 ≤ capacity * all = mul-le-mul_left capacity fewer in
    omega (arith, short.all_positions here.0 here.1 (omega (arith, fewer, room)), product, enough)
