-- What the private contracts of upgrading cite; nothing here has to be believed.
use Rattle.std.specs.Prelude.{All}
use Rattle.items.specs.Game.{GameNumbers}
use Rattle.items.specs.Multiset.{IsMultiset, IsSize}
use Rattle.loads.specs.Loads.{IsLoads}
use Rattle.strategy_text.specs.declared.node.AdvNode.{AdvNode}
use Rattle.strategy_text.specs.declared.node.AlgNode.{AlgNode}
use Rattle.strategy_text.specs.declared.node.Nodes.{Nodes}
use Rattle.strategy_text.specs.declared.node.Nodes.TheVariants.{Adversary, Algorithm}
use Rattle.adversary_graph.specs.Nodes.{sent_size}

-- a node's loads are loads of the game, its items a multiset of sizes of the game, and it sends a size of the game
pub record CanUpgradeAdversary (game : GameNumbers) (node : AdvNode) : Type 0 where
  pub loads : IsLoads game node.loads
  pub items : IsMultiset game.capacity node.items
  pub size : IsSize game.capacity (sent_size node.step)

pub record CanUpgradeAlgorithm (game : GameNumbers) (node : AlgNode) : Type 0 where
  pub loads : IsLoads game node.loads
  pub items : IsMultiset game.capacity node.items

abbrev pub CanUpgradeNodes : GameNumbers → Nodes → Type 0
CanUpgradeNodes game (Adversary nodes) = All (CanUpgradeAdversary game) nodes
CanUpgradeNodes game (Algorithm nodes) = All (CanUpgradeAlgorithm game) nodes
