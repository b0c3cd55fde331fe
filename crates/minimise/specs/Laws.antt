use Rattle.std.specs.Prelude.{◌≡◌, ◌≤◌, ℕ, List, length}
use Rattle.items.specs.Game.{GameNumbers}
use Rattle.strategy_text.specs.Text.{nodes_of}
use Rattle.strategy_text.specs.declared.node.Format.{Format}
use Rattle.strategy_text.specs.declared.node.Nodes.{Nodes}
use Rattle.strategy_text.specs.declared.node.Nodes.TheVariants.{Adversary, Algorithm}
use Rattle.strategy_text.specs.declared.node.Strategy.{Strategy}
use Rattle.adversary_graph.specs.Nodes as adversary
use Rattle.algorithm_graph.specs.Nodes as algorithm
use Rattle.strategies.specs.AnyNode.{AreLegalNodes, IsLegal}
use Rattle.minimise.specs.Agree.{Agree}
use Rattle.minimise.specs.References.{adversary_references, renamed_adversary, algorithm_references, renamed_algorithm}
use Rattle.minimise.specs.Reached.{AreDistinct, AreReached}
use Rattle.minimise.specs.Strategies.{canonical_form, canonical_nodes, positions_in, references_in}
use Rattle.minimise.specs.Upgrade.{IsUpgradeOf}

-- the canonical form of legal nodes is legal, whatever sizes items may have
abbrev pub CanonicalFormsAreLegal : Type 0
CanonicalFormsAreLegal =
    (format : Format) (game : GameNumbers) (sizes : List ℕ) (nodes : Nodes)
    → AreLegalNodes format game sizes nodes → AreLegalNodes format game sizes (canonical_nodes nodes)

-- no position stands at two of its nodes
abbrev pub CanonicalFormsHaveDistinctPositions : Type 0
CanonicalFormsHaveDistinctPositions =
    (format : Format) (game : GameNumbers) (sizes : List ℕ) (nodes : Nodes)
    → AreLegalNodes format game sizes nodes → AreDistinct (positions_in (canonical_nodes nodes))

-- each of its nodes is reached from the root
abbrev pub CanonicalFormsAreReached : Type 0
CanonicalFormsAreReached =
    (format : Format) (game : GameNumbers) (sizes : List ℕ) (nodes : Nodes)
    → AreLegalNodes format game sizes nodes → AreReached (references_in (canonical_nodes nodes))

-- an upgrade of a legal strategy is legal
abbrev pub UpgradesAreLegal : Type 0
UpgradesAreLegal = (strategy upgraded : Strategy) → IsLegal strategy → IsUpgradeOf strategy upgraded → IsLegal upgraded

-- the canonical form of a canonical form is itself
abbrev pub CanonicalFormsStay : Type 0
CanonicalFormsStay =
    (strategy : Strategy) → IsLegal strategy
    → canonical_form (canonical_form strategy) ≡ canonical_form strategy

-- the canonical form has no more nodes than the strategy
abbrev pub CanonicalFormsHaveNoMoreNodes : Type 0
CanonicalFormsHaveNoMoreNodes =
    (strategy : Strategy) → IsLegal strategy
    → length (nodes_of (canonical_form strategy).nodes) ≤ length (nodes_of strategy.nodes)

-- nodes of one side, of which each that the canonical form of the one keeps has a twin in the other
abbrev pub NodesAgree : Nodes → Nodes → Type 0
NodesAgree (Adversary one) (Adversary other) =
    Agree adversary.position_of adversary_references renamed_adversary one other
NodesAgree (Algorithm one) (Algorithm other) =
    Agree algorithm.position_of algorithm_references renamed_algorithm one other
NodesAgree (Adversary one) (Algorithm other) = ⊥
NodesAgree (Algorithm one) (Adversary other) = ⊥

-- neither the numbers of nodes, nor nodes that stand there twice, nor nodes that are not reached change the canonical
-- form: legal strategies for one game that agree in the nodes that are kept have the same
abbrev pub AgreeingStrategiesHaveOneForm : Type 0
AgreeingStrategiesHaveOneForm =
    (one other : Strategy) → IsLegal one → IsLegal other → one.format ≡ other.format → one.game ≡ other.game
    → NodesAgree one.nodes other.nodes → canonical_form one ≡ canonical_form other
