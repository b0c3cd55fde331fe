-- The command `upgrade`: the canonical form of an upgrade of a strategy.
use Rattle.std.specs.Prelude.{◌≡◌, ℕ, List, [], codes}
use Rattle.checker.specs.declared.fault.Wanted.TheVariants.{Either}
use Rattle.minimise.specs.Upgrade.{IsCanonicalUpgrade}
use Rattle.strategy_text.specs.Text.{text_of}
use Rattle.strategy_text.specs.declared.node.Strategy.{Strategy}
use Rattle.stretch_bench.specs.Canonical.{IsAlike, IsCanonical}
use Rattle.stretch_bench.specs.Form.{Form, of_strategy}

-- the text of the canonical form of an upgrade of a strategy, which is legal, and of its game and its side
pub record IsUpgraded (strategy : Strategy) (text : List ℕ) : Type 0 where
  pub made : Strategy
  pub upgrade : IsCanonicalUpgrade strategy made
  pub canonical : IsCanonical made
  pub alike : IsAlike strategy made
  pub spelled : text ≡ text_of made

abbrev pub upgrade : Form
upgrade = record {
  name = codes "upgrade";
  arguments = [];
  IsAllowed = Unit {0};
  work = of_strategy Either IsUpgraded;
}
