-- The command `value`: the value of a number of bins and a capacity, with a strategy of each side.
use Rattle.std.specs.Prelude.{◌≡◌, ℕ, ◌+◌, ◌*◌, ◌^◌, ◌<◌, ◌≤◌, ◌⊎◌, List, [], ◌∷◌, ◌++◌, Some, None, codes, decimal}
use Rattle.std.specs.Prelude.{length}
use Rattle.bound_value.specs.Answers.{FallsShort, IsOpenAt}
use Rattle.bound_value.specs.Values.{IsValueOf}
use Rattle.items.specs.Game.{GameNumbers, HasBins, HasCapacity, numbers}
use Rattle.monotone.specs.Positions.{CountsAllReachable}
use Rattle.monotone.specs.declared.path.PathMove.{PathMove}
use Rattle.strategy_text.specs.Text.{nodes_of, side_of, text_of}
use Rattle.strategy_text.specs.declared.node.Format.TheVariants.{One}
use Rattle.strategy_text.specs.declared.node.Side.{Side}
use Rattle.strategy_text.specs.declared.node.Side.TheVariants.{Adversary, Algorithm}
use Rattle.strategy_text.specs.declared.node.Strategy.{Strategy}
use Rattle.stretch_bench.specs.Canonical.{IsCanonical}
use Rattle.stretch_bench.specs.Form.{Form, of_words}
use Rattle.stretch_bench.specs.Lines.{written_line}
use Rattle.stretch_bench.specs.Search.{IsSetting, setting_words, undecided_line}

-- the bins and the capacity, and the budget and the size of the table of each search
pub record IsValueSearch (bins capacity budget table : ℕ) : Type 0 where
  pub of_bins : HasBins bins
  pub of_capacity : HasCapacity capacity
  pub setting : IsSetting budget table

-- a legal strategy of a side for a game, in format 1 and in canonical form, with at most so many nodes
pub record IsShown (side : Side) (game : GameNumbers) (budget : ℕ) (strategy : Strategy) : Type 0 where
  pub canonical : IsCanonical strategy
  pub of_side : side_of strategy.nodes ≡ side
  pub of_game : strategy.game ≡ game
  pub of_format : strategy.format ≡ One
  pub few : length (nodes_of strategy.nodes) ≤ budget

-- the line of a value
abbrev pub value_line : ℕ → ℕ → ℕ → List ℕ
value_line bins capacity target =
    written_line (codes "value" ∷ decimal bins ∷ decimal capacity ∷ codes "target" ∷ decimal target ∷ [])

-- the line where there is none
abbrev pub no_value_line : ℕ → ℕ → List ℕ
no_value_line bins capacity = written_line (codes "value" ∷ decimal bins ∷ decimal capacity ∷ codes "none" ∷ [])

-- the line of the value, and the texts of a strategy of the adversary for it and of one of the algorithm for the next
-- target
pub record IsValuedAt (bins capacity budget : ℕ) (text : List ℕ) : Type 0 where
  pub target : ℕ
  pub adversary : Strategy
  pub algorithm : Strategy
  pub adversary_wins : IsShown Adversary (numbers bins capacity target) budget adversary
  pub algorithm_wins : IsShown Algorithm (numbers bins capacity (target + 1)) budget algorithm
  pub is_value : IsValueOf bins capacity (Some target)
  pub spelled : text ≡ value_line bins capacity target ++ (text_of adversary ++ text_of algorithm)

-- the line that there is no value, and the text of a strategy of the algorithm for the least target
pub record IsValuedNowhere (bins capacity budget : ℕ) (text : List ℕ) : Type 0 where
  pub algorithm : Strategy
  pub algorithm_wins : IsShown Algorithm (numbers bins capacity (capacity + 1)) budget algorithm
  pub no_value : IsValueOf bins capacity None
  pub spelled : text ≡ no_value_line bins capacity ++ text_of algorithm

-- what is written where each search was decided
abbrev pub IsValued : ℕ → ℕ → ℕ → List ℕ → Type 0
IsValued bins capacity budget text = IsValuedAt bins capacity budget text ⊎ IsValuedNowhere bins capacity budget text

-- the line of a visit that was due when the search of a target had spent its budget; every algorithm is forced at the
-- target below it. The budget is less than what surely decides the search of this target, and less than what surely
-- decides those of all targets.
pub record IsUnvalued (bins capacity budget table : ℕ) (text : List ℕ) : Type 0 where
  pub target : ℕ
  pub visits : ℕ
  pub pass : ℕ
  pub path : List PathMove
  pub spent : IsOpenAt bins capacity budget target visits pass path
  pub falls_short : FallsShort (numbers bins capacity target) budget table
  pub fewer_than_visits : budget < capacity * (bins + 1) ^ (bins * capacity)
  pub fewer_than_positions : (all : ℕ) → CountsAllReachable (numbers bins capacity (2 * capacity)) all → all ≤ table
      → budget < capacity * all
  pub line : text ≡ undecided_line (numbers bins capacity target) visits pass path

abbrev pub value : ℕ → ℕ → ℕ → ℕ → Form
value bins capacity budget table = record {
  name = codes "value";
  arguments = decimal bins ∷ decimal capacity ∷ setting_words budget table;
  IsAllowed = IsValueSearch bins capacity budget table;
  work = of_words (IsValued bins capacity budget);
}
