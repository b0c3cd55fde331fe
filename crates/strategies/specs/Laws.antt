use Rattle.std.specs.Prelude.{◌≡◌, ◌↔◌, ◌⊎◌}
use Rattle.strategy_text.specs.Text.{side_of}
use Rattle.strategy_text.specs.declared.node.Side.TheVariants as sides
use Rattle.strategy_text.specs.declared.node.Strategy.{Strategy}
use Rattle.adversary_graph.specs.Pools.{IsLegalOfAdversary}
use Rattle.algorithm_graph.specs.Pools.{IsLegalOfAlgorithm}
use Rattle.strategies.specs.AnyNode.{IsLegal}

-- a legal strategy is one of the adversary or one of the algorithm
abbrev pub LegalOfOneSide : Type 0
LegalOfOneSide = (strategy : Strategy) → IsLegal strategy ↔ (IsLegalOfAdversary strategy ⊎ IsLegalOfAlgorithm strategy)

-- a legal strategy whose nodes are the adversary's is one of the adversary
abbrev pub LegalBySide : Type 0
LegalBySide =
    (strategy : Strategy) → IsLegal strategy → side_of strategy.nodes ≡ sides.Adversary → IsLegalOfAdversary strategy
