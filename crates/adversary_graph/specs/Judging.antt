-- What the private contracts of judging a node cite; nothing here has to be believed.
use Rattle.std.specs.Prelude.{◌≡◌, ℕ, Bool, List}
use Rattle.items.specs.Game.{GameNumbers}
use Rattle.items.specs.Multiset.{IsMultiset}
use Rattle.loads.specs.Loads.{IsLoads}
use Rattle.loads.specs.After.{after}
use Rattle.loads.specs.declared.position.Position.{Position}
use Rattle.strategy_text.specs.Rules.{IsFirstBroken}
use Rattle.strategy_text.specs.declared.node.AdvNode.{AdvNode}
use Rattle.strategy_text.specs.declared.node.Format.{Format}
use Rattle.strategy_text.specs.declared.node.Placement.{Placement}
use Rattle.strategy_text.specs.declared.node.Step.{Step}
use Rattle.strategy_text.specs.declared.rule.Rule.{Rule}
use Rattle.adversary_graph.specs.NodeRules.{NodeRule, rule_of}
use Rattle.adversary_graph.specs.Rules.{Meets, LeadsTo, rules_past_items}

-- the node of this position that takes this step
abbrev pub node_at : Position → Step → AdvNode
node_at position step = record { loads = position.loads; items = position.items; step = step }

-- the first rule past `items` that the node breaks
abbrev pub BreaksPastItems : Format → GameNumbers → List ℕ → List Position → Bool → AdvNode → Rule → Type 0
BreaksPastItems format game sizes earlier last node rule =
    (broken : NodeRule) × (rule ≡ rule_of broken)
    × IsFirstBroken (Meets format game sizes earlier last node) rules_past_items broken

-- after the placement the play is over, or goes on at an earlier node at the position after it
abbrev pub LeadsOn : List Position → Position → ℕ → Placement → Type 0
LeadsOn earlier position size placement = LeadsTo earlier placement.next (after position placement.load size)

-- a node's loads are loads of the game, and its items a multiset of sizes of the game
pub record HasPosition (game : GameNumbers) (node : AdvNode) : Type 0 where
  pub loads : IsLoads game node.loads
  pub items : IsMultiset game.capacity node.items
