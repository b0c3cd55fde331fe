-- A strategy of the adversary on another scale: every load, item, sent size and number of a packing times a factor.
use Rattle.std.specs.Prelude.{ℕ, ◌*◌, List, map, option_map}
use Rattle.items.specs.Game.{GameNumbers, numbers}
use Rattle.packing_witness.specs.Edits.{scaled}
use Rattle.strategy_text.specs.declared.node.AdvNode.{AdvNode}
use Rattle.strategy_text.specs.declared.node.Nodes.{Nodes}
use Rattle.strategy_text.specs.declared.node.Nodes.TheVariants.{Adversary, Algorithm}
use Rattle.strategy_text.specs.declared.node.Placement.{Placement}
use Rattle.strategy_text.specs.declared.node.Step.{Step}
use Rattle.strategy_text.specs.declared.node.Step.TheVariants.{Send, Burst}
use Rattle.strategy_text.specs.declared.node.Strategy.{Strategy}

-- the game with as many bins, whose capacity and target are multiplied
abbrev pub scaled_game : ℕ → GameNumbers → GameNumbers
scaled_game factor game = numbers game.bins (game.capacity * factor) (game.target * factor)

-- each number times the factor
abbrev pub times : ℕ → List ℕ → List ℕ
times factor sizes = map (λ size. size * factor) sizes

-- what follows stays
abbrev pub scaled_placement : ℕ → Placement → Placement
scaled_placement factor placement = record placement { load = placement.load * factor }

-- how many items a burst has stays
abbrev pub scaled_step : ℕ → Step → Step
scaled_step factor (Send size pack placements) =
    Send (size * factor) (option_map (scaled factor) pack) (map (scaled_placement factor) placements)
scaled_step factor (Burst count size pack) = Burst count (size * factor) (scaled factor pack)

abbrev pub scaled_node : ℕ → AdvNode → AdvNode
scaled_node factor node =
    record { loads = times factor node.loads; items = times factor node.items; step = scaled_step factor node.step }

-- the nodes of the adversary; only its strategies are scaled
abbrev pub scaled_nodes : ℕ → Nodes → Nodes
scaled_nodes factor (Adversary nodes) = Adversary (map (scaled_node factor) nodes)
scaled_nodes factor (Algorithm nodes) = Algorithm nodes

-- the strategy of the same format on the other scale
abbrev pub scaled_strategy : ℕ → Strategy → Strategy
scaled_strategy factor strategy = record {
  format = strategy.format;
  game = scaled_game factor strategy.game;
  nodes = scaled_nodes factor strategy.nodes;
}
