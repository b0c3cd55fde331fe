use Rattle.node_pool.specs.Pools.{pool_of}
use Rattle.node_pool.proofs.PoolLemmas.{IsPool-push}
use Rattle.node_pool.proofs.judged.JudgedNodes.push.Goals as goal

pub invariant_of-self-2 : goal.invariant_of-self-2
invariant_of-self-2 g c =
    let pool = c.self.inside in
    let rules = g.R.NodeRules in
    let next = rw (← c.self.view_is) at c.requires.next in
    rw c.in_ok-push.ensures.ok (IsPool-push rules.position rules.IsOfFormat rules.MeetsRules (pool_of pool.terms pool.nodes) c.args.node c.self.invariant next)
