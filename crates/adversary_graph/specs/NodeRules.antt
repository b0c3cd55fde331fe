use Rattle.strategy_text.specs.declared.rule.Rule.{Rule}
use Rattle.strategy_text.specs.declared.rule.Rule.TheVariants as rules

-- the rules of an adversary's node
pub data NodeRule : Type 0 where
  loads : NodeRule
  items : NodeRule
  send : NodeRule
  burst : NodeRule
  pack : NodeRule
  placements : NodeRule
  over : NodeRule
  child : NodeRule
  root : NodeRule

-- the rule as a line of the answer names it
abbrev pub rule_of : NodeRule → Rule
rule_of loads = rules.Loads
rule_of items = rules.Items
rule_of send = rules.Send
rule_of burst = rules.Burst
rule_of pack = rules.Pack
rule_of placements = rules.Placements
rule_of over = rules.Over
rule_of child = rules.Child
rule_of root = rules.Root
