use Rattle.std.specs.Prelude.{◌≡◌, ◌↔◌, ℕ, ◌+◌, ◌-◌, ◌/◌, ◌<◌, ◌≤◌, Bool, IsTrue, List, [], ◌∷◌, ◌++◌, Option, Some}
use Rattle.std.specs.Prelude.{None, IfSome, map, sum_by, All, Contains}
use Rattle.items.specs.Game.{GameNumbers}
use Rattle.items.specs.Packable.{IsPacking}
use Rattle.loads.specs.After.{after}
use Rattle.loads.specs.Descending.{distinct}
use Rattle.loads.specs.Loads.{IsLoads}
use Rattle.loads.specs.Position.{AreItemsOf, IsEmptyPosition, StandsAt}
use Rattle.loads.specs.declared.position.Position.{Position}
use Rattle.strategy_text.specs.Rules.{AllMet, IsFirstBroken}
use Rattle.strategy_text.specs.declared.node.AdvNode.{AdvNode}
use Rattle.strategy_text.specs.declared.node.Format.{Format}
use Rattle.strategy_text.specs.declared.node.Format.TheVariants.{One, Two}
use Rattle.strategy_text.specs.declared.node.Placement.{Placement}
use Rattle.strategy_text.specs.declared.node.Step.{Step}
use Rattle.strategy_text.specs.declared.node.Step.TheVariants.{Send, Burst}
use Rattle.strategy_text.specs.declared.node.Then.{Then}
use Rattle.strategy_text.specs.declared.node.Then.TheVariants.{Over, To}
use Rattle.strategy_text.specs.declared.rule.Rule.{Rule}
use Rattle.adversary_graph.specs.NodeRules.{NodeRule, rule_of}
use Rattle.adversary_graph.specs.NodeRules as the
use Rattle.adversary_graph.specs.Nodes.{position_of, sent_size, sent_items, packing_of, placements_of}

-- how many items of this size can come without a load that reaches the target
abbrev pub most_below_target : GameNumbers → ℕ → List ℕ → ℕ
most_below_target game size loads = sum_by (λ load. (game.target - 1 - load) / size) loads

-- a burst has more items than can come without a load that reaches the target
abbrev pub IsLongEnough : GameNumbers → List ℕ → Step → Type 0
IsLongEnough game loads (Send size pack placements) = Unit {0}
IsLongEnough game loads (Burst number size pack) = most_below_target game size loads < number

abbrev pub IsOver : Then → Type 0
IsOver Over = Unit {0}
IsOver (To child) = ⊥

-- a packing is asked for: of each node in format 1, and in format 2 where the play ends at the node whatever bin is
-- answered
abbrev pub IsPackingAsked : Format → Step → Type 0
IsPackingAsked One step = Unit {0}
IsPackingAsked Two (Send size pack placements) = All (λ placement. IsOver placement.next) placements
IsPackingAsked Two (Burst number size pack) = Unit {0}

abbrev pub IsShown : Option (List (List ℕ)) → Type 0
IsShown None = ⊥
IsShown (Some bins) = Unit {0}

-- a packing is shown exactly where it is asked for, and it is one of the items with all items that the node sends
pub record IsPacked (game : GameNumbers) (format : Format) (node : AdvNode) : Type 0 where
  pub shown : IsShown (packing_of node.step) ↔ IsPackingAsked format node.step
  pub holds : IfSome (packing_of node.step) (λ bins. IsPacking game bins (node.items ++ sent_items node.step))

-- the placements of a sending node have its different loads, descending
abbrev pub PlacesEachLoad : List ℕ → Step → Type 0
PlacesEachLoad loads (Send size pack placements) = map (λ placement. placement.load) placements ≡ distinct loads
PlacesEachLoad loads (Burst number size pack) = Unit {0}

-- the placement is over exactly where its load with the sent item reaches the target
abbrev pub IsOverAtTarget : GameNumbers → ℕ → Placement → Type 0
IsOverAtTarget game size placement = IsOver placement.next ↔ (game.target ≤ placement.load + size)

-- what follows is over, or leads to one of the earlier nodes, whose position is this one
abbrev pub LeadsTo : List Position → Then → Position → Type 0
LeadsTo earlier Over position = Unit {0}
LeadsTo earlier (To child) position = StandsAt earlier child position

-- the rules of an adversary's node, over the sizes that items may have, the positions of the nodes before it, and
-- whether it is the last node
abbrev pub Meets : Format → GameNumbers → List ℕ → List Position → Bool → AdvNode → NodeRule → Type 0
Meets format game sizes earlier last node the.loads = IsLoads game node.loads
Meets format game sizes earlier last node the.items = AreItemsOf sizes node.loads node.items
Meets format game sizes earlier last node the.send = Contains sizes (sent_size node.step)
Meets format game sizes earlier last node the.burst = IsLongEnough game node.loads node.step
Meets format game sizes earlier last node the.pack = IsPacked game format node
Meets format game sizes earlier last node the.placements = PlacesEachLoad node.loads node.step
Meets format game sizes earlier last node the.over =
    All (IsOverAtTarget game (sent_size node.step)) (placements_of node.step)
Meets format game sizes earlier last node the.child =
    All (λ placement. LeadsTo earlier placement.next (after (position_of node) placement.load (sent_size node.step)))
    (placements_of node.step)
Meets format game sizes earlier last node the.root = IsTrue last → IsEmptyPosition (position_of node)

-- the rules that are judged once the position is known, in their order
abbrev pub rules_past_items : List NodeRule
rules_past_items = the.send ∷ the.burst ∷ the.pack ∷ the.placements ∷ the.over ∷ the.child ∷ the.root ∷ []

-- the rules in the order in which they are judged
abbrev pub node_rules : List NodeRule
node_rules = the.loads ∷ the.items ∷ rules_past_items

-- every rule is met
abbrev pub MeetsRules : Format → GameNumbers → List ℕ → List Position → Bool → AdvNode → Type 0
MeetsRules format game sizes earlier last node = AllMet (Meets format game sizes earlier last node) node_rules

-- the first rule that the node breaks
abbrev pub Breaks : Format → GameNumbers → List ℕ → List Position → Bool → AdvNode → Rule → Type 0
Breaks format game sizes earlier last node rule =
    (broken : NodeRule) × (rule ≡ rule_of broken)
    × IsFirstBroken (Meets format game sizes earlier last node) node_rules broken
