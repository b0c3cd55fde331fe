-- A strategy in format 2 that says the same as another: bursts in place of items after which the play can end, big
-- finishes in place of replies, and packings only where the rules ask for them.
use Rattle.std.specs.Prelude.{◌≡◌, ℕ, ◌+◌, List, ◌++◌, ◌⊎◌, None, replicate}
use Rattle.std.specs.List.{AllZip}
use Rattle.items.specs.Game.{GameNumbers}
use Rattle.items.specs.Packable.{IsPacking, Packable}
use Rattle.good_situations.specs.BigFinish.{BigFinishes, IsBigBound}
use Rattle.minimise.specs.Strategies.{canonical_form}
use Rattle.strategy_text.specs.declared.node.Act.{Act}
use Rattle.strategy_text.specs.declared.node.Act.TheVariants.{Finish, Big, Reply}
use Rattle.strategy_text.specs.declared.node.AdvNode.{AdvNode}
use Rattle.strategy_text.specs.declared.node.AlgNode.{AlgNode}
use Rattle.strategy_text.specs.declared.node.Entry.{Entry}
use Rattle.strategy_text.specs.declared.node.Format.TheVariants.{Two}
use Rattle.strategy_text.specs.declared.node.Nodes.{Nodes}
use Rattle.strategy_text.specs.declared.node.Nodes.TheVariants.{Adversary, Algorithm}
use Rattle.strategy_text.specs.declared.node.Placement.{Placement}
use Rattle.strategy_text.specs.declared.node.Step.{Step}
use Rattle.strategy_text.specs.declared.node.Step.TheVariants.{Send, Burst}
use Rattle.strategy_text.specs.declared.node.Strategy.{Strategy}
use Rattle.adversary_graph.specs.Rules.{most_below_target}

-- ---- nodes of the adversary

-- the least number of items of a size, of which one must reach the target
abbrev pub least_burst : GameNumbers → ℕ → List ℕ → ℕ
least_burst game size loads = most_below_target game size loads + 1

-- the items of a node with the least burst of a size
abbrev pub with_burst : GameNumbers → ℕ → AdvNode → List ℕ
with_burst game size node = node.items ++ replicate (least_burst game size node.loads) size

-- the least burst with a packing
abbrev pub IsLeastBurst : GameNumbers → ℕ → AdvNode → Step → Type 0
IsLeastBurst game size node new =
    (bins : List (List ℕ)) × (new ≡ Burst (least_burst game size node.loads) size bins)
    × IsPacking game bins (with_burst game size node)

-- the least burst where its items may come; else the same item with the same placements, and no packing
abbrev pub UpgradesSend : GameNumbers → ℕ → List Placement → AdvNode → Step → Type 0
UpgradesSend game size placements node new =
    IsLeastBurst game size node new
    ⊎ ((Packable game (with_burst game size node) → ⊥) × (new ≡ Send size None placements))

-- a burst stays as it is
abbrev pub UpgradesStep : GameNumbers → AdvNode → Step → Step → Type 0
UpgradesStep game node (Send size pack placements) new = UpgradesSend game size placements node new
UpgradesStep game node (Burst times size pack) new = new ≡ Burst times size pack

pub record UpgradesAdversary (game : GameNumbers) (node new : AdvNode) : Type 0 where
  pub loads : new.loads ≡ node.loads
  pub items : new.items ≡ node.items
  pub step : UpgradesStep game node node.step new.step

-- ---- nodes of the algorithm

-- the big finish with the fewest reserved bins where there is one; else the same replies
abbrev pub UpgradesReply : GameNumbers → List Entry → AlgNode → Act → Type 0
UpgradesReply game entries node new =
    ((b : ℕ) × IsBigBound game node.loads node.items b × (new ≡ Big b))
    ⊎ (((b : ℕ) → BigFinishes game node.loads node.items b → ⊥) × (new ≡ Reply entries))

-- a finish of either kind stays as it is
abbrev pub UpgradesAct : GameNumbers → AlgNode → Act → Act → Type 0
UpgradesAct game node Finish new = new ≡ Finish
UpgradesAct game node (Big b) new = new ≡ Big b
UpgradesAct game node (Reply entries) new = UpgradesReply game entries node new

pub record UpgradesAlgorithm (game : GameNumbers) (node new : AlgNode) : Type 0 where
  pub loads : new.loads ≡ node.loads
  pub items : new.items ≡ node.items
  pub act : UpgradesAct game node node.act new.act

-- ---- strategies

-- the nodes at the same numbers, as many of each, of one side
abbrev pub UpgradesNodes : GameNumbers → Nodes → Nodes → Type 0
UpgradesNodes game (Adversary nodes) (Adversary news) = AllZip (UpgradesAdversary game) nodes news
UpgradesNodes game (Algorithm nodes) (Algorithm news) = AllZip (UpgradesAlgorithm game) nodes news
UpgradesNodes game (Adversary nodes) (Algorithm news) = ⊥
UpgradesNodes game (Algorithm nodes) (Adversary news) = ⊥

-- an upgrade of a strategy
pub record IsUpgradeOf (strategy upgraded : Strategy) : Type 0 where
  pub format : upgraded.format ≡ Two
  pub game : upgraded.game ≡ strategy.game
  pub nodes : UpgradesNodes strategy.game strategy.nodes upgraded.nodes

-- the canonical form of an upgrade of a strategy
abbrev pub IsCanonicalUpgrade : Strategy → Strategy → Type 0
IsCanonicalUpgrade strategy made = (raised : Strategy) × IsUpgradeOf strategy raised × (made ≡ canonical_form raised)
