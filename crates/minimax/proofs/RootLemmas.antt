-- The root of a search, and what its end answers.
use Rattle.std.proofs.Common.{◌≡◌, ℕ, zero, suc, ◌+◌, ◌<◌, ◌≤◌, List, [], ◌∷◌, length, map, take, sum}
use Rattle.std.proofs.Common.{replicate, Some, refl, sym, ap, subst, ⊎_elim, arith}
use Rattle.std.proofs.lemmas.Bool.{cases_lt}
use Rattle.std.specs.Prelude.{Contains, IfOk, Result, Ok, Err}
use Rattle.std.proofs.lemmas.Option.{none-some}
use Rattle.std.specs.declared.alloc.AllocError.{AllocError}
use Rattle.std.proofs.lemmas.List.Elements.{All-nil, All-replicate}
use Rattle.items.specs.Game.{GameNumbers}
use Rattle.minimax.specs.declared.space.Space.{Space}
use Rattle.items.specs.Multiset.{sizes_of}
use Rattle.items.proofs.MultisetLemmas.{IsNonDecreasing-from_rises}
use Rattle.loads.specs.Loads.{IsLoads}
use Rattle.loads.specs.Position.{AreItemsOf, IsEmptyPosition, StandsAt}
use Rattle.loads.specs.Wins.{IsWon, empty_position}
use Rattle.loads.specs.declared.position.Position.{Position}
use Rattle.packing_witness.proofs.PackingLemmas.{size_of_last}
use Rattle.strategy_text.specs.Spelling.{most_nodes}
use Rattle.strategy_text.specs.declared.node.AdvNode.{AdvNode}
use Rattle.strategy_text.specs.declared.node.AlgNode.{AlgNode}
use Rattle.strategy_text.specs.declared.node.Format.{Format}
use Rattle.strategy_text.specs.declared.node.Nodes.{Nodes}
use Rattle.strategy_text.specs.declared.node.Nodes.TheVariants as sides
use Rattle.strategy_text.specs.declared.node.Strategy.{Strategy}
use Rattle.adversary_graph.specs.Nodes as adversary
use Rattle.adversary_graph.specs.Pools as adversary_pools
use Rattle.node_pool.proofs.PoolLemmas.{root_from_position}
use Rattle.algorithm_graph.specs.Nodes as algorithm
use Rattle.algorithm_graph.specs.Pools as algorithm_pools
use Rattle.monotone.specs.Passes.{SearchSpace, whole_game}
use Rattle.monotone.specs.Visits.{HasVisitsBefore, IsLater, Metered, most_visits, unused, visit}
use Rattle.monotone.specs.declared.path.PathMove.{PathMove}
use Rattle.packing_witness.proofs.PackableLemmas.{Packable-nil}
use Rattle.monotone.proofs.VisitLemmas.{CountsVisits-unused, count_below_bound, visits_before}
use Rattle.transposition.specs.Memo.{verdict_of}
use Rattle.transposition.specs.declared.verdict.Verdict.{Verdict}
use Rattle.transposition.specs.declared.verdict.Verdict.TheVariants.{Algorithm}
use Rattle.minimax.specs.Answers.{IsAnswer, IsAnswerOver, IsDecided, IsFor, IsLegalOfAdversaryOver, IsLegalOfAlgorithmOver}
use Rattle.minimax.specs.declared.answer.Answer.{Answer}
use Rattle.minimax.specs.declared.answer.Answer.TheVariants as Answers
use Rattle.minimax.specs.Settled.{IsDue, NoneWonBefore}
use Rattle.minimax.specs.State.{AreSound, IsLed, IsPlayable, IsSound, IsSpent, MayVisit, StandsAtPath, allowed_by, position_of_win, space_of}
use Rattle.minimax.specs.WinsWriting.{MayWriteWins}
use Rattle.minimax.specs.Writing.{MayWrite}
use Rattle.minimax.specs.Serving.{HasSpare, IsServedBy}
use Rattle.minimax.specs.declared.expanding.Search.{Search}
use Rattle.minimax.specs.declared.replies.Reply.{Reply}
use Rattle.minimax.specs.declared.wins.Win.{Win}
use Rattle.monotone.proofs.ListLemmas.{Contains-nothing}

pub length-take-short : {X : Type 0} (n : ℕ) (xs : List X) → length (take n xs) ≤ length xs
length-take-short zero xs = omega arith
length-take-short (suc n) [] = omega arith
length-take-short (suc n) (x ∷ xs) = omega (arith, length-take-short n xs)

sum-zeros : (n : ℕ) → sum (replicate n 0) ≡ 0
sum-zeros zero = refl
sum-zeros (suc n) = sum-zeros n

-- no items, of empty bins
pub AreItemsOf-empty : (sizes : List ℕ) (bins : ℕ) → AreItemsOf sizes (replicate bins 0) []
AreItemsOf-empty sizes bins = record {
  ascending = IsNonDecreasing-from_rises 0 [] tt;
  allowed = All-nil (Contains sizes);
  total = sym (sum-zeros bins);
}

pub IsPlayable-empty : (space : Space) → IsLoads space.game (replicate space.game.bins 0) → IsPlayable space (empty_position space.game)
IsPlayable-empty space loads = record {
  loads = loads;
  items = AreItemsOf-empty space.sizes space.game.bins;
  packable = Packable-nil space.game;
}

-- a new search has no nodes
pub HasSpare-new : (s : Search) (space : Space) (entries : List (Position × Verdict)) → s.wins ≡ [] → s.replies ≡ [] → entries ≡ []
    → HasSpare space 0 s entries
HasSpare-new s space entries w r e = (
  [],
  (
    omega (arith, ap (λ (ws : List Win). length ws) w, ap (λ (rs : List Reply). length rs) r),
    record {
      known = λ p v told. absurd (none-some v (subst (λ es. verdict_of es p ≡ Some v) e told));
      replied = λ reply c. absurd (Contains-nothing reply (subst (λ rs. Contains rs reply) r c));
    },
  ),
)

-- a new search is sound
pub AreSound-new : (space : Space) (pass budget : ℕ) (meter : Metered) (wins : List Win) (replies : List Reply)
    (entries : List (Position × Verdict)) → meter ≡ unused space.game budget → wins ≡ [] → replies ≡ []
    → entries ≡ [] → budget ≤ most_nodes → AreSound space pass meter wins replies entries
AreSound-new space pass budget meter wins replies entries m w r e few =
    subst (λ x. AreSound space pass x wins replies entries) (sym m)
    (subst (λ x. AreSound space pass (unused space.game budget) x replies entries) (sym w)
    (subst (λ x. AreSound space pass (unused space.game budget) [] x entries) (sym r)
    (subst (AreSound space pass (unused space.game budget) [] []) (sym e) (record {
      ready_wins = λ k win told. absurd (none-some win told);
      ready = λ k reply told. absurd (none-some reply told);
      counts = CountsVisits-unused (space_of space) budget;
      within = omega arith;
      budget = few;
      won = All-nil _;
      lost = All-nil _;
      known = λ p v told. cc;
    }))))

module _ (space : Space) (pass : ℕ) where
  -- the root may be visited
  pub may_visit_root : (s : Search) (root : Position) → space.first_pass ≤ pass → pass < space.game.capacity → IsLoads space.game (replicate space.game.bins 0) → root ≡ empty_position space.game → s.path ≡ []
      → s.most ≡ space.game.capacity → s.rooms ≡ space.game
      → ((path : List PathMove) → IsLater s.meter (visit pass path)) → MayVisit space pass s root
  may_visit_root s root from_first of_game loads is path most rooms later =
      subst (MayVisit space pass s) (sym is) (record {
        stands = subst (λ p. StandsAtPath space pass p (empty_position space.game)) (sym path) (record {
          from_first = from_first;
          of_game = of_game;
          playable = IsPlayable-empty space loads;
          legal = tt;
          here = refl;
          settled = tt;
        });
        bound = λ size p. omega (arith, most, (size_of_last space.game [] size p).high);
        rooms = rooms;
        later = later s.path;
      })

  empty_is : IsEmptyPosition (empty_position space.game)
  empty_is = record { loads = All-replicate (λ load. load ≡ 0) space.game.bins 0 refl; items = refl }

  -- the node of the verdict is a root
  pub root_of_win : (nodes : List AdvNode) (number : ℕ) (root : Position) → root ≡ empty_position space.game → StandsAt (map adversary.position_of nodes) number root
      → adversary_pools.IsRoot nodes number
  root_of_win nodes number root is stands =
      root_from_position adversary.position_of nodes number root stands (subst IsEmptyPosition (sym is) empty_is)

  pub root_of_reply : (nodes : List AlgNode) (number : ℕ) (root : Position) → root ≡ empty_position space.game → StandsAt (map algorithm.position_of nodes) number root
      → algorithm_pools.IsRoot nodes number
  root_of_reply nodes number root is stands =
      root_from_position algorithm.position_of nodes number root stands (subst IsEmptyPosition (sym is) empty_is)

  -- there are no more wins than visits were made
  pub few_wins : (budget : ℕ) (s : Search) (entries : List (Position × Verdict)) → IsSound space pass s entries → HasSpare space 0 s entries → s.meter.budget ≡ budget
      → length s.wins ≤ budget
  few_wins budget s entries sound behind b = omega (arith, behind.1.0, sound.within, b)

  -- the wins that were kept may be written, with the root that was found
  pub may_write_wins : (s : Search) (entries : List (Position × Verdict)) (root : Position) (number : ℕ) → IsSound space pass s entries → HasSpare space 0 s entries
      → root ≡ empty_position space.game → StandsAt (map position_of_win s.wins) number root → MayWriteWins space s.wins number
  may_write_wins s entries root number sound behind is stands = record {
    ready = sound.ready_wins;
    is_root = subst (StandsAt (map position_of_win s.wins) number) is stands;
    few = omega (arith, behind.1.0, sound.within, sound.budget);
  }

  -- the replies that were kept may be written, and the root among them
  pub may_write : (budget : ℕ) (s : Search) (entries : List (Position × Verdict)) (root : Position) (told : ℕ) → IsSound space pass s entries
      → (behind : HasSpare space 0 s entries) → s.meter.budget ≡ budget → IsServedBy space behind.0 root (Algorithm told) → IsPlayable space root
      → root ≡ empty_position space.game → IsLed space s.replies root told → MayWrite space s.replies root told budget
  may_write budget s entries root told sound behind b served playable is led = record {
    ready = sound.ready;
    playable = playable;
    is_root = is;
    led = led;
    unnamed = behind.0;
    few = omega (arith, behind.1.0, sound.within, b);
    limit = omega (arith, sound.budget, b);
    served = behind.1.1.replied;
    root_served = λ e. served.0 (ap Algorithm e);
  }

  -- the visit that was due
  pub IsDue-spent : (budget : ℕ) (s : Search) → NoneWonBefore (space_of space) pass → IsSpent space pass budget s → IsDue (space_of space) budget (visit pass s.path)
  IsDue-spent budget s none spent =
      let stands = spent.due.1.stands in
      record {
        is_visit = record { from_first = stands.from_first; to_last = stands.of_game; legal = stands.legal };
        spent = subst (λ n. HasVisitsBefore (space_of space) n (visit pass s.path)) spent.count
            (visits_before (space_of space) s.meter (visit pass s.path) spent.counts spent.due.1.later);
        settled = record { earlier_passes = none; moves = stands.settled };
      }

  -- one more pass that is not won
  pub none_more : NoneWonBefore (space_of space) pass → (IsWon space.game (allowed_by space pass) (empty_position space.game) → ⊥)
      → NoneWonBefore (space_of space) (pass + 1)
  none_more none here earlier first l won = ⊎_elim
      (λ below. none earlier first below won)
      (λ above. let same : earlier ≡ pass = omega (arith, above, l) in here (subst (λ k. IsWon space.game (allowed_by space k) (empty_position space.game)) same won))
      (cases_lt earlier pass)

-- a strategy for a budget is one for a larger budget
pub IsFor-more : (game : GameNumbers) (few budget : ℕ) (strategy : Strategy) → few ≤ budget → IsFor game few strategy → IsFor game budget strategy
IsFor-more game few budget strategy more is = record { of_game = is.of_game; of_format = is.of_format; few = omega (arith, is.few, more) }

-- with more than the most visits the answer is decided
pub decided_by_visits : (space : SearchSpace) (budget : ℕ) (answer : Answer) → IsAnswerOver space budget answer → most_visits space ≤ budget → IsDecided answer
decided_by_visits space budget (Answers.Adversary strategy) is enough = tt
decided_by_visits space budget (Answers.Algorithm strategy) is enough = tt
decided_by_visits space budget (Answers.Undecided visits pass path) is enough =
    omega (arith, enough, count_below_bound space budget (visit pass path) is.1.spent is.1.is_visit)

-- a strategy that is legal over all sizes of its game is legal
legal_adversary : (format : Format) (game : GameNumbers) (nodes : Nodes) → IsLegalOfAdversaryOver (sizes_of game) (record { format = format; game = game; nodes = nodes })
    → adversary_pools.AreLegal format game nodes
legal_adversary format game (sides.Adversary nodes) h = h
legal_adversary format game (sides.Algorithm nodes) h = h

legal_algorithm : (format : Format) (game : GameNumbers) (nodes : Nodes) → IsLegalOfAlgorithmOver (sizes_of game) (record { format = format; game = game; nodes = nodes })
    → algorithm_pools.AreLegal format game nodes
legal_algorithm format game (sides.Adversary nodes) h = h
legal_algorithm format game (sides.Algorithm nodes) h = h

-- an answer over all sizes of a game is one of the game
pub IsAnswer-over : (game : GameNumbers) (budget : ℕ) (answer : Answer) → IsAnswerOver (whole_game game) budget answer → IsAnswer game budget answer
IsAnswer-over game budget (Answers.Adversary strategy) is =
    (legal_adversary strategy.format strategy.game strategy.nodes (subst (λ g. IsLegalOfAdversaryOver (sizes_of g) strategy) (sym is.1.of_game) is.0), is.1)
IsAnswer-over game budget (Answers.Algorithm strategy) is =
    (legal_algorithm strategy.format strategy.game strategy.nodes (subst (λ g. IsLegalOfAlgorithmOver (sizes_of g) strategy) (sym is.1.of_game) is.0), is.1)
IsAnswer-over game budget (Answers.Undecided visits pass path) is = is

-- what follows from two facts of an answer
pub on_ok : {P Q R : Answer → Type 0} (result : Result Answer AllocError) → IfOk result P → IfOk result Q → ((answer : Answer) → P answer → Q answer → R answer)
    → IfOk result R
on_ok (Ok answer) p q h = h answer p q
on_ok (Err error) p q h = tt
