use Rattle.std.specs.Prelude.{◌≡◌, ℕ, List, [], ◌∷◌, ◌⊎◌, codes}
use Rattle.strategy_text.specs.declared.rule.Rule.{Rule}
use Rattle.strategy_text.specs.declared.rule.Rule.TheVariants as rules

-- the word for a rule in a rejection
abbrev pub rule_word : Rule → List ℕ
rule_word rules.Game = codes "game"
rule_word rules.Side = codes "side"
rule_word rules.Loads = codes "loads"
rule_word rules.Items = codes "items"
rule_word rules.Send = codes "send"
rule_word rules.Burst = codes "burst"
rule_word rules.Pack = codes "pack"
rule_word rules.Placements = codes "placements"
rule_word rules.Over = codes "over"
rule_word rules.Child = codes "child"
rule_word rules.Root = codes "root"
rule_word rules.Finish = codes "finish"
rule_word rules.Big = codes "big"
rule_word rules.Replies = codes "replies"
rule_word rules.Reply = codes "reply"

-- each rule of a list is met
abbrev pub AllMet : {R : Type 0} → (R → Type 0) → List R → Type 0
AllMet IsMet [] = Unit {0}
AllMet IsMet (first ∷ others) = IsMet first × AllMet IsMet others

-- a rule of a list that is not met, while each one before it is
abbrev pub IsFirstBroken : {R : Type 0} → (R → Type 0) → List R → R → Type 0
IsFirstBroken IsMet [] rule = ⊥
IsFirstBroken IsMet (first ∷ others) rule =
    ((rule ≡ first) × ¬ (IsMet first)) ⊎ (IsMet first × IsFirstBroken IsMet others rule)
