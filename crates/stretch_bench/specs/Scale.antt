-- The command `scale`: a strategy of the adversary on another scale.
use Rattle.std.specs.Prelude.{◌≡◌, ℕ, ◌*◌, ◌≤◌, List, [], ◌∷◌, codes, decimal}
use Rattle.adversary_graph.specs.Pools.{IsLegalOfAdversary}
use Rattle.checker.specs.declared.fault.Wanted.TheVariants.{Only}
use Rattle.strategy_text.specs.Text.{text_of}
use Rattle.strategy_text.specs.declared.node.Side.TheVariants.{Adversary}
use Rattle.strategy_text.specs.declared.node.Strategy.{Strategy}
use Rattle.strategy_transfer.specs.Scaled.{scaled_strategy}
use Rattle.strategy_transfer.specs.Targets.{CanScaleStrategy}
use Rattle.stretch_bench.specs.Form.{Form, of_strategy}
use Rattle.stretch_bench.specs.Lines.{written_line}

-- what the capacity and the target are multiplied by
pub record IsFactor (factor : ℕ) : Type 0 where
  pub some : 1 ≤ factor
  pub most : factor ≤ 120

-- the text of a strategy of the adversary, which is legal, on another scale
pub record IsScaled (factor : ℕ) (strategy : Strategy) (text : List ℕ) : Type 0 where
  pub can : CanScaleStrategy factor strategy
  pub legal : IsLegalOfAdversary (scaled_strategy factor strategy)
  pub spelled : text ≡ text_of (scaled_strategy factor strategy)

-- the numbers of the game that was asked for
abbrev pub no_transfer_line : ℕ → ℕ → ℕ → List ℕ
no_transfer_line bins capacity target =
    written_line (codes "notransfer" ∷ decimal bins ∷ decimal capacity ∷ decimal target ∷ [])

-- the capacity of a strategy's game is too large for this factor
pub record IsUnscaled (factor : ℕ) (strategy : Strategy) (text : List ℕ) : Type 0 where
  pub cannot : ¬ CanScaleStrategy factor strategy
  pub line : text
      ≡ no_transfer_line strategy.game.bins (strategy.game.capacity * factor) (strategy.game.target * factor)

abbrev pub scale : ℕ → Form
scale factor = record {
  name = codes "scale";
  arguments = decimal factor ∷ [];
  IsAllowed = IsFactor factor;
  work = of_strategy (Only Adversary) (IsScaled factor);
}
