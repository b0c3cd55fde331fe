use Rattle.std.proofs.Common.{◌≡◌, ◌≤◌, ◌*◌, take}
use Rattle.adversary_graph.specs.Rules.{most_below_target}
use Rattle.minimise.proofs.upgraded.least_burst.Given as goal

abbrev pub invariant-loop-load : goal.invariant-loop-load
invariant-loop-load l = (l.most ≡ most_below_target l.game l.size (take l.load-index l.loads)) × (l.most ≤ 239 * l.load-index)
