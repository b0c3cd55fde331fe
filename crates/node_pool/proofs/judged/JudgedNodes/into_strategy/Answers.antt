use Rattle.std.proofs.Common.{subst}
use Rattle.node_pool.specs.Pools.{IsPool}
use Rattle.node_pool.proofs.PoolLemmas.{AreLegal-from_pool}
use Rattle.node_pool.proofs.judged.JudgedNodes.into_strategy.Goals as goal

pub returns-clause-legal : goal.returns-clause-legal
returns-clause-legal g c =
    let rules = g.R.NodeRules in
    AreLegal-from_pool rules.position rules.IsOfFormat rules.MeetsRules g.met.R.NodeRules.root_is_asked_last c.args.self c.args.root
    (subst (IsPool rules.position rules.IsOfFormat rules.MeetsRules) c.self.view_is c.self.invariant) c.requires.root
