-- The command `minimise`: the canonical form of a strategy.
use Rattle.std.specs.Prelude.{◌≡◌, ℕ, List, [], codes}
use Rattle.checker.specs.declared.fault.Wanted.TheVariants.{Either}
use Rattle.minimise.specs.Strategies.{canonical_form}
use Rattle.strategy_text.specs.Text.{text_of}
use Rattle.strategy_text.specs.declared.node.Strategy.{Strategy}
use Rattle.stretch_bench.specs.Canonical.{IsAlike, IsCanonical}
use Rattle.stretch_bench.specs.Form.{Form, of_strategy}

-- the text of the canonical form of a strategy, which is legal, and of its game and its side
pub record IsMinimised (strategy : Strategy) (text : List ℕ) : Type 0 where
  pub canonical : IsCanonical (canonical_form strategy)
  pub alike : IsAlike strategy (canonical_form strategy)
  pub spelled : text ≡ text_of (canonical_form strategy)

abbrev pub minimise : Form
minimise = record {
  name = codes "minimise";
  arguments = [];
  IsAllowed = Unit {0};
  work = of_strategy Either IsMinimised;
}
