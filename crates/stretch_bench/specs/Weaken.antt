-- The command `weaken`: the canonical form of a strategy at another target.
use Rattle.std.specs.Prelude.{◌≡◌, ℕ, ◌≤◌, List, [], ◌∷◌, codes, decimal}
use Rattle.checker.specs.declared.fault.Wanted.TheVariants.{Either}
use Rattle.minimise.specs.Strategies.{canonical_form}
use Rattle.strategy_text.specs.Text.{side_of, text_of}
use Rattle.strategy_text.specs.declared.node.Strategy.{Strategy}
use Rattle.strategy_transfer.specs.Targets.{CanWeakenStrategy}
use Rattle.strategy_transfer.specs.Weakened.{weakened_strategy, with_target}
use Rattle.stretch_bench.specs.Canonical.{IsCanonical}
use Rattle.stretch_bench.specs.Form.{Form, of_strategy}
use Rattle.stretch_bench.specs.Scale.{no_transfer_line}

-- a target that a word may tell
pub record IsTargetWord (target : ℕ) : Type 0 where
  pub some : 1 ≤ target
  pub most : target ≤ 240

-- the canonical form of a strategy at another target
abbrev pub weakened_form : ℕ → Strategy → Strategy
weakened_form target strategy = canonical_form (weakened_strategy target strategy)

-- the text of the canonical form of a strategy at another target, which is legal there, and of its side
pub record IsWeakened (target : ℕ) (strategy : Strategy) (text : List ℕ) : Type 0 where
  pub can : CanWeakenStrategy target strategy
  pub canonical : IsCanonical (weakened_form target strategy)
  pub game : (weakened_form target strategy).game ≡ with_target target strategy.game
  pub side : side_of (weakened_form target strategy).nodes ≡ side_of strategy.nodes
  pub spelled : text ≡ text_of (weakened_form target strategy)

-- a strategy does not serve this target
pub record IsUnweakened (target : ℕ) (strategy : Strategy) (text : List ℕ) : Type 0 where
  pub cannot : ¬ CanWeakenStrategy target strategy
  pub line : text ≡ no_transfer_line strategy.game.bins strategy.game.capacity target

abbrev pub weaken : ℕ → Form
weaken target = record {
  name = codes "weaken";
  arguments = decimal target ∷ [];
  IsAllowed = IsTargetWord target;
  work = of_strategy Either (IsWeakened target);
}
