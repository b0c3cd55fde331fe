-- What strategies of both sides say of a game.
use Rattle.std.specs.Prelude.{List}
use Rattle.items.specs.Game.{GameNumbers}
use Rattle.items.specs.Multiset.{sizes_of}
use Rattle.strategy_text.specs.declared.node.AdvNode.{AdvNode}
use Rattle.strategy_text.specs.declared.node.AlgNode.{AlgNode}
use Rattle.strategy_text.specs.declared.node.Format.{Format}
use Rattle.adversary_graph.specs.Legal as adversary_legal
use Rattle.algorithm_graph.specs.Legal as algorithm_legal

-- no game has a legal strategy of the adversary and a legal strategy of the algorithm, whatever their formats
abbrev pub NoGameHasBoth : Type 0
NoGameHasBoth =
    (game : GameNumbers) (format other : Format) (adversary : List AdvNode) (algorithm : List AlgNode)
    → adversary_legal.IsLegal format game (sizes_of game) adversary
    → algorithm_legal.IsLegal other game (sizes_of game) algorithm → ⊥
