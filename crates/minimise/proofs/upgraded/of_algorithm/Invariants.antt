use Rattle.std.proofs.Common.{take}
use Rattle.std.specs.List.{AllZip}
use Rattle.minimise.specs.Upgrade.{UpgradesAlgorithm}
use Rattle.minimise.proofs.upgraded.of_algorithm.Given as goal

abbrev pub invariant-loop-node : goal.invariant-loop-node
invariant-loop-node l = AllZip (UpgradesAlgorithm l.game) (take l.node-index l.nodes) l.news
