-- The command `check`: whether the input is the text of a legal strategy.
use Rattle.std.specs.Prelude.{◌≡◌, ℕ, List, [], ◌∷◌, codes, decimal, length}
use Rattle.checker.specs.declared.fault.Accepted.{Accepted}
use Rattle.checker.specs.declared.fault.Wanted.TheVariants.{Either}
use Rattle.items.specs.Game.{GameNumbers}
use Rattle.strategy_text.specs.Text.{nodes_of, side_of, side_word}
use Rattle.strategy_text.specs.declared.node.Side.TheVariants.{Adversary, Algorithm}
use Rattle.strategy_text.specs.declared.node.Strategy.{Strategy}
use Rattle.stretch_bench.specs.Form.{Form, of_strategy}
use Rattle.stretch_bench.specs.Lines.{written_line}

-- a legal strategy was read: its side, its game, and how many nodes it has
abbrev pub accepted_line : Accepted → List ℕ
accepted_line accepted =
    written_line (codes "accepted" ∷ side_word accepted.side
    ∷ decimal accepted.game.bins ∷ decimal accepted.game.capacity ∷ decimal accepted.game.target
    ∷ codes "nodes" ∷ decimal accepted.nodes ∷ [])

-- a legal strategy of the adversary for this game was read, with so many nodes
abbrev pub adversary_accepted : GameNumbers → ℕ → Accepted
adversary_accepted game nodes = record { game = game; side = Adversary; nodes = nodes }

-- and one of the algorithm
abbrev pub algorithm_accepted : GameNumbers → ℕ → Accepted
algorithm_accepted game nodes = record { game = game; side = Algorithm; nodes = nodes }

-- what the line of a strategy tells
abbrev pub accepted_of : Strategy → Accepted
accepted_of strategy =
    record { game = strategy.game; side = side_of strategy.nodes; nodes = length (nodes_of strategy.nodes) }

-- the line of a strategy that was accepted
abbrev pub IsAcceptedLine : Strategy → List ℕ → Type 0
IsAcceptedLine strategy text = text ≡ accepted_line (accepted_of strategy)

abbrev pub check : Form
check = record {
  name = codes "check";
  arguments = [];
  IsAllowed = Unit {0};
  work = of_strategy Either IsAcceptedLine;
}
