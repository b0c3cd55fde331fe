use Rattle.std.proofs.Common.{take}
use Rattle.std.specs.List.{AllZip}
use Rattle.minimise.specs.Upgrade.{UpgradesAdversary}
use Rattle.minimise.proofs.upgraded.of_adversary.Given as goal

abbrev pub invariant-loop-node : goal.invariant-loop-node
invariant-loop-node l = AllZip (UpgradesAdversary l.game) (take l.node-index l.nodes) l.news
