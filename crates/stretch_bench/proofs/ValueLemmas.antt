-- What is due of a search for a value.
use Rattle.std.proofs.Common.{◌≡◌, ◌*◌, ◌^◌, ◌≤◌, ◌<◌, ◌+◌, ℕ, List, ◌++◌, Some, None, Result, Ok, Err, IfOk, inl, inr, ap, subst, refl, ◌∙◌, arith, append-nil, lt_of_not-le}
use Rattle.adversary_graph.specs.Pools as adversary_pools
use Rattle.algorithm_graph.specs.Pools as algorithm_pools
use Rattle.bound_value.specs.Answers.{FallsShort, IfUndecided, IsDecided, IsOpenAt, IsShownAt, IsShownNowhere, ShowsForced, ShowsKept}
use Rattle.bound_value.specs.Answers.{IsValued as IsAnswered}
use Rattle.bound_value.specs.declared.valued.Valued.{Valued}
use Rattle.bound_value.specs.declared.valued.Valued.TheVariants as answers
use Rattle.items.specs.Game.{GameNumbers, numbers}
use Rattle.minimax.specs.Answers.{IsFor}
use Rattle.minimise.specs.Strategies.{canonical_form}
use Rattle.minimise.proofs.StrategyLemmas.{canonical_forms_have_no_more_nodes}
use Rattle.monotone.specs.Positions.{CountsAllReachable}
use Rattle.monotone.specs.declared.path.PathMove.{PathMove}
use Rattle.strategies.specs.AnyNode.{IsLegal}
use Rattle.strategies.proofs.SideLemmas.{legal_of_one_side}
use Rattle.strategy_text.specs.Text.{side_of, text_of}
use Rattle.strategy_text.specs.declared.node.Format.{Format}
use Rattle.strategy_text.specs.declared.node.Nodes.{Nodes}
use Rattle.strategy_text.specs.declared.node.Nodes.TheVariants as sides
use Rattle.strategy_text.specs.declared.node.Side.{Side}
use Rattle.strategy_text.specs.declared.node.Side.TheVariants.{Adversary, Algorithm}
use Rattle.strategy_text.specs.declared.node.Strategy.{Strategy}
use Rattle.stretch_bench.specs.Pieces.{IsDueWith, IsEither}
use Rattle.stretch_bench.specs.Search.{undecided_line}
use Rattle.stretch_bench.specs.Value.{IsShown, IsUnvalued, IsValued, no_value_line, value_line}
use Rattle.stretch_bench.specs.declared.due.Due.{Due}
use Rattle.stretch_bench.specs.declared.status.Status.{Status}
use Rattle.stretch_bench.specs.declared.status.Status.TheVariants.{Done, Undecided}
use Rattle.stretch_bench.proofs.LegalLemmas.{adversary_legal_too, canonical_alike, canonical_is, spellable}
use Rattle.stretch_bench.proofs.OutcomeLemmas.{due_is}

-- ---- a line and strategies

pub two_due : (line : List ℕ) (first second made other : Strategy) → IsLegal made → IsLegal other → made ≡ canonical_form first → other ≡ canonical_form second
    → IsDueWith Done (λ text. text ≡ line ++ (text_of (canonical_form first) ++ text_of (canonical_form second)))
    (record { status = Done; lines = line; first = Some made; second = Some other })
two_due line first second made other legal also is too = record {
  status_is = refl;
  writable = record { first = spellable made legal; second = spellable other also };
  text = λ i. line ++ (text_of (is i) ++ text_of (too i));
}

pub one_due : (line : List ℕ) (only made : Strategy) → IsLegal made → made ≡ canonical_form only
    → IsDueWith Done (λ text. text ≡ line ++ text_of (canonical_form only)) (record { status = Done; lines = line; first = Some made; second = None })
one_due line only made legal is = record {
  status_is = refl;
  writable = record { first = spellable made legal; second = tt };
  text = ap (λ (t : List ℕ). line ++ t) (append-nil (text_of made) ∙ ap text_of is);
}

-- what was made is one of two kinds
pub first_kind : {E : Type 0} (r : Result Due E) (status other : Status) (Is Kind Other : List ℕ → Type 0)
    → ((due : Due) → IsDueWith status Is due → IsDueWith status Kind due) → IfOk r (IsDueWith status Is) → IfOk r (IsEither status Kind other Other)
first_kind (Ok due) status other Is Kind Other gives with = inl (gives due with)
first_kind (Err e) status other Is Kind Other gives with = tt

-- ---- what shows a value

algorithm_legal_too : (strategy : Strategy) → algorithm_pools.IsLegalOfAlgorithm strategy → IsLegal strategy
algorithm_legal_too strategy legal = (legal_of_one_side strategy).1 (inr legal)

pub adversary_side : (format : Format) (game : GameNumbers) (nodes : Nodes) → adversary_pools.AreLegal format game nodes → side_of nodes ≡ Adversary
adversary_side format game (sides.Adversary list) legal = refl
adversary_side format game (sides.Algorithm list) legal = absurd legal

algorithm_side : (format : Format) (game : GameNumbers) (nodes : Nodes) → algorithm_pools.AreLegal format game nodes → side_of nodes ≡ Algorithm
algorithm_side format game (sides.Algorithm list) legal = refl
algorithm_side format game (sides.Adversary list) legal = absurd legal

form_shown : (side : Side) (game : GameNumbers) (budget : ℕ) (strategy : Strategy) → IsLegal strategy → side_of strategy.nodes ≡ side → IsFor game budget strategy
    → IsShown side game budget (canonical_form strategy)
form_shown side game budget strategy legal e for = record {
  canonical = canonical_is strategy legal;
  of_side = (canonical_alike strategy).side ∙ e;
  of_game = for.of_game;
  of_format = for.of_format;
  few = omega (arith, canonical_forms_have_no_more_nodes strategy legal, for.few);
}

forced_shown : (game : GameNumbers) (budget : ℕ) (strategy : Strategy) → ShowsForced game budget strategy → IsShown Adversary game budget (canonical_form strategy)
forced_shown game budget strategy shows =
    form_shown Adversary game budget strategy (adversary_legal_too strategy shows.legal)
    (adversary_side strategy.format strategy.game strategy.nodes shows.legal) shows.for_game

kept_shown : (game : GameNumbers) (budget : ℕ) (strategy : Strategy) → ShowsKept game budget strategy → IsShown Algorithm game budget (canonical_form strategy)
kept_shown game budget strategy shows =
    form_shown Algorithm game budget strategy (algorithm_legal_too strategy shows.legal)
    (algorithm_side strategy.format strategy.game strategy.nodes shows.legal) shows.for_game

-- ---- what a search for a value answers

module _ (bins capacity budget : ℕ) (valued : Valued) (answer : IsAnswered bins capacity budget valued) where
  at_of : (target : ℕ) (adversary algorithm : Strategy) → valued ≡ answers.At target adversary algorithm
      → IsShownAt bins capacity budget target adversary algorithm
  at_of target adversary algorithm e = subst (IsAnswered bins capacity budget) e answer

  nowhere_of : (algorithm : Strategy) → valued ≡ answers.Nowhere algorithm → IsShownNowhere bins capacity budget algorithm
  nowhere_of algorithm e = subst (IsAnswered bins capacity budget) e answer

  open_of : (target visits pass : ℕ) (path : List PathMove) → valued ≡ answers.Undecided target visits pass path
      → IsOpenAt bins capacity budget target visits pass path
  open_of target visits pass path e = subst (IsAnswered bins capacity budget) e answer

  pub at_due : (target : ℕ) (adversary algorithm : Strategy) (line : List ℕ) (due : Due) → valued ≡ answers.At target adversary algorithm
      → line ≡ value_line bins capacity target
      → IsDueWith Done (λ text. text ≡ line ++ (text_of (canonical_form adversary) ++ text_of (canonical_form algorithm))) due
      → IsDueWith Done (IsValued bins capacity budget) due
  at_due target adversary algorithm line due e told with =
      let shown = at_of target adversary algorithm e in
      due_is Done (IsValued bins capacity budget) (line ++ (text_of (canonical_form adversary) ++ text_of (canonical_form algorithm))) due
      (inl (record {
        target = target;
        adversary = canonical_form adversary;
        algorithm = canonical_form algorithm;
        adversary_wins = forced_shown (numbers bins capacity target) budget adversary shown.adversary_wins;
        algorithm_wins = kept_shown (numbers bins capacity (target + 1)) budget algorithm shown.algorithm_wins;
        is_value = shown.is_value;
        spelled = ap (λ (l : List ℕ). l ++ (text_of (canonical_form adversary) ++ text_of (canonical_form algorithm))) told;
      }))
      with

  pub nowhere_due : (algorithm : Strategy) (line : List ℕ) (due : Due) → valued ≡ answers.Nowhere algorithm → line ≡ no_value_line bins capacity
      → IsDueWith Done (λ text. text ≡ line ++ text_of (canonical_form algorithm)) due → IsDueWith Done (IsValued bins capacity budget) due
  nowhere_due algorithm line due e told with =
      let shown = nowhere_of algorithm e in
      due_is Done (IsValued bins capacity budget) (line ++ text_of (canonical_form algorithm)) due
      (inr (record {
        algorithm = canonical_form algorithm;
        algorithm_wins = kept_shown (numbers bins capacity (capacity + 1)) budget algorithm shown.algorithm_wins;
        no_value = shown.no_value;
        spelled = ap (λ (l : List ℕ). l ++ text_of (canonical_form algorithm)) told;
      }))
      with

  pub open_due : (table target visits pass : ℕ) (path : List PathMove) (game : GameNumbers) (line : List ℕ) (due : Due)
      → valued ≡ answers.Undecided target visits pass path
      → IfUndecided valued (λ target. FallsShort (numbers bins capacity target) budget table)
      → (capacity * (bins + 1) ^ (bins * capacity) ≤ budget → IsDecided valued)
      → ((all : ℕ) → CountsAllReachable (numbers bins capacity (2 * capacity)) all → all ≤ table → capacity * all ≤ budget → IsDecided valued)
      → game ≡ numbers bins capacity target → line ≡ undecided_line game visits pass path → IsDueWith Undecided (λ text. text ≡ line) due
      → IsDueWith Undecided (IsUnvalued bins capacity budget table) due
  open_due table target visits pass path game line due e short many all same told with =
      due_is Undecided (IsUnvalued bins capacity budget table) line due
      (record {
        target = target;
        visits = visits;
        pass = pass;
        path = path;
        spent = open_of target visits pass path e;
        falls_short = subst (λ (v : Valued). IfUndecided v (λ target. FallsShort (numbers bins capacity target) budget table)) e short;
        fewer_than_visits = lt_of_not-le (λ h. subst IsDecided e (many h));
        fewer_than_positions = λ number counts within. lt_of_not-le (λ h. subst IsDecided e (all number counts within h));
        line = told ∙ ap (λ (g : GameNumbers). undecided_line g visits pass path) same;
      })
      with
