use Rattle.std.specs.Prelude.{◌≡◌, ◌↔◌, ℕ, ◌+◌, ◌<◌, Bool, IsTrue, List, [], ◌∷◌, ◌++◌, length, map, slice_index, All}
use Rattle.std.specs.Prelude.{Contains}
use Rattle.items.specs.Game.{GameNumbers}
use Rattle.items.specs.Packable.{Packable}
use Rattle.loads.specs.After.{after}
use Rattle.loads.specs.Loads.{IsLoads}
use Rattle.loads.specs.Position.{AreItemsOf, IsEmptyPosition, StandsAt}
use Rattle.loads.specs.declared.position.Position.{Position}
use Rattle.good_situations.specs.Finish.{Finishes}
use Rattle.good_situations.specs.BigFinish.{BigFinishes}
use Rattle.strategy_text.specs.Rules.{AllMet, IsFirstBroken}
use Rattle.strategy_text.specs.declared.node.Act.{Act}
use Rattle.strategy_text.specs.declared.node.Act.TheVariants.{Finish, Big, Reply}
use Rattle.strategy_text.specs.declared.node.AlgNode.{AlgNode}
use Rattle.strategy_text.specs.declared.node.Entry.{Entry}
use Rattle.strategy_text.specs.declared.rule.Rule.{Rule}
use Rattle.strategy_text.specs.declared.rule.Rule.TheVariants as rules
use Rattle.algorithm_graph.specs.Nodes.{position_of, entries_of}

-- the rules of an algorithm's node
pub data NodeRule : Type 0 where
  loads : NodeRule
  items : NodeRule
  finish : NodeRule
  big : NodeRule
  replies : NodeRule
  reply : NodeRule
  child : NodeRule
  root : NodeRule

-- the rule as a line of the answer names it
abbrev pub rule_of : NodeRule → Rule
rule_of loads = rules.Loads
rule_of items = rules.Items
rule_of finish = rules.Finish
rule_of big = rules.Big
rule_of replies = rules.Replies
rule_of reply = rules.Reply
rule_of child = rules.Child
rule_of root = rules.Root

-- a node that says `finish` has loads from which the finish rule keeps every load below the target
abbrev pub FinishesIfSaid : GameNumbers → AlgNode → Act → Type 0
FinishesIfSaid game node Finish = Finishes game node.loads
FinishesIfSaid game node (Big b) = Unit {0}
FinishesIfSaid game node (Reply entries) = Unit {0}

-- a node that says `big b` has loads and items that meet the rule of the big finish for this b
abbrev pub BigFinishesIfSaid : GameNumbers → AlgNode → Act → Type 0
BigFinishesIfSaid game node Finish = Unit {0}
BigFinishesIfSaid game node (Big b) = BigFinishes game node.loads node.items b
BigFinishesIfSaid game node (Reply entries) = Unit {0}

-- each number is less than the next one
abbrev pub IsStrictlyAscending : List ℕ → Type 0
IsStrictlyAscending xs = (k : ℕ) → k + 1 < length xs → slice_index xs k < slice_index xs (k + 1)

-- the sizes of the entries strictly ascend, and are exactly the sizes that may come
pub record ReplyToEach (game : GameNumbers) (sizes items : List ℕ) (entries : List Entry) : Type 0 where
  pub ascending : IsStrictlyAscending (map (λ entry. entry.size) entries)
  pub exact : (size : ℕ)
      → Contains (map (λ entry. entry.size) entries) size ↔ (Contains sizes size × Packable game (items ++ size ∷ []))

-- a node that says `reply` has an entry for each size that may come
abbrev pub RepliesIfSaid : GameNumbers → List ℕ → AlgNode → Act → Type 0
RepliesIfSaid game sizes node Finish = Unit {0}
RepliesIfSaid game sizes node (Big b) = Unit {0}
RepliesIfSaid game sizes node (Reply entries) = ReplyToEach game sizes node.items entries

-- the entry names a load of the node that stays below the target with the size
pub record NamesLoad (game : GameNumbers) (loads : List ℕ) (entry : Entry) : Type 0 where
  pub load : Contains loads entry.load
  pub below : entry.load + entry.size < game.target

-- the rules of an algorithm's node, over the sizes that items may have, the positions of the nodes before it, and
-- whether it is the last node
abbrev pub Meets : GameNumbers → List ℕ → List Position → Bool → AlgNode → NodeRule → Type 0
Meets game sizes earlier last node loads = IsLoads game node.loads
Meets game sizes earlier last node items = AreItemsOf sizes node.loads node.items
Meets game sizes earlier last node finish = FinishesIfSaid game node node.act
Meets game sizes earlier last node big = BigFinishesIfSaid game node node.act
Meets game sizes earlier last node replies = RepliesIfSaid game sizes node node.act
Meets game sizes earlier last node reply = All (NamesLoad game node.loads) (entries_of node.act)
Meets game sizes earlier last node child =
    All (λ entry. StandsAt earlier entry.to (after (position_of node) entry.load entry.size)) (entries_of node.act)
Meets game sizes earlier last node root = IsTrue last → IsEmptyPosition (position_of node)

-- the rules that are judged once the position is known, in their order
abbrev pub rules_past_items : List NodeRule
rules_past_items = finish ∷ big ∷ replies ∷ reply ∷ child ∷ root ∷ []

-- the rules in the order in which they are judged
abbrev pub node_rules : List NodeRule
node_rules = loads ∷ items ∷ rules_past_items

-- every rule is met
abbrev pub MeetsRules : GameNumbers → List ℕ → List Position → Bool → AlgNode → Type 0
MeetsRules game sizes earlier last node = AllMet (Meets game sizes earlier last node) node_rules

-- the first rule that the node breaks
abbrev pub Breaks : GameNumbers → List ℕ → List Position → Bool → AlgNode → Rule → Type 0
Breaks game sizes earlier last node rule =
    (broken : NodeRule) × (rule ≡ rule_of broken) × IsFirstBroken (Meets game sizes earlier last node) node_rules broken
