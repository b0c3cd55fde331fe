use Rattle.algorithm_graph.proofs.PoolLemmas.{pool_leaves_a_bin}
use Rattle.algorithm_graph.proofs.replay.node_of.Goals as goal

pub returns-clause-left : goal.returns-clause-left
returns-clause-left c = pool_leaves_a_bin c.args.pool.now c.args.number c.node.result.now c.len-count.ensures.legal c.node.ensures.value
