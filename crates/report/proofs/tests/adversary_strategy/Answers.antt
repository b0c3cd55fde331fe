use Rattle.std.proofs.Common.{inl}
use Rattle.node_pool.specs.Pools.{nodes_up_to}
use Rattle.adversary_graph.proofs.PoolLemmas.{IsLegal-of_pool}
use Rattle.strategies.proofs.SideLemmas.{legal_of_one_side}
use Rattle.report.proofs.tests.adversary_strategy.Goals as goal

pub returns : goal.returns
returns c =
    let made = c.into_strategy.ensures in
    (legal_of_one_side c.into_strategy.result).1 (inl (IsLegal-of_pool c.into_strategy.result c.args.pool (nodes_up_to c.args.root c.args.pool.nodes)
    c.requires.whole made.format made.game made.nodes made.legal))
