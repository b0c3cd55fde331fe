use Rattle.std.specs.Prelude.{ℕ, Bool, List}
use Rattle.items.specs.Game.{GameNumbers}
use Rattle.loads.specs.declared.position.Position.{Position}
use Rattle.strategy_text.specs.declared.node.AdvNode.{AdvNode}
use Rattle.strategy_text.specs.declared.node.Format.{Format}
use Rattle.node_pool.specs.Pools as pools
use Rattle.node_pool.specs.Terms.{Terms, terms_of}
use Rattle.adversary_graph.specs.Nodes.{position_of, IsOfFormat}
use Rattle.adversary_graph.specs.Rules.{MeetsRules}

-- a node has a form of the format
abbrev pub IsNodeOfFormat : Format → AdvNode → Type 0
IsNodeOfFormat format node = IsOfFormat format node.step

-- a node meets every rule under these terms
abbrev pub MeetsRulesUnder : Terms → List Position → Bool → AdvNode → Type 0
MeetsRulesUnder terms earlier last node = MeetsRules terms.format terms.game terms.sizes earlier last node

-- each node meets every rule over the nodes before it, of so many in all; the last one is the root
abbrev pub EachMeetsRules : Format → GameNumbers → List ℕ → ℕ → List AdvNode → Type 0
EachMeetsRules format game sizes count nodes =
    pools.EachMeetsRules position_of MeetsRulesUnder (terms_of format game sizes) count nodes

-- each node meets every rule but `root` over the nodes before it
abbrev pub EachFollows : Format → GameNumbers → List ℕ → List AdvNode → Type 0
EachFollows format game sizes nodes = pools.EachFollows position_of MeetsRulesUnder (terms_of format game sizes) nodes

-- a legal strategy of the adversary, over the sizes that items may have: the numbers are a game, there are 1 to
-- 4,000,000,000 nodes, each has a form of the format, and each meets every rule
abbrev pub IsLegal : Format → GameNumbers → List ℕ → List AdvNode → Type 0
IsLegal format game sizes nodes =
    pools.AreLegal position_of IsNodeOfFormat MeetsRulesUnder (terms_of format game sizes) nodes
