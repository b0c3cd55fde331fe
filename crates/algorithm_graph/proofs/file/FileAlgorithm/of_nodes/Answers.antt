use Rattle.algorithm_graph.specs.Pools.{pool_of}
use Rattle.node_pool.specs.Pools.{nodes_up_to}
use Rattle.algorithm_graph.proofs.FileLemmas.{file_keeps_below}
use Rattle.algorithm_graph.proofs.PoolLemmas.{IsLegal-from_pool}
use Rattle.algorithm_graph.proofs.file.FileAlgorithm.of_nodes.Goals as goal

pub returns-clause-legal : goal.returns-clause-legal
returns-clause-legal c = IsLegal-from_pool c.args.nodes c.args.root c.len-count.ensures.legal c.requires.whole_game c.requires.root

pub returns-clause-below : goal.returns-clause-below
returns-clause-below c =
    let pool = c.args.nodes in
    file_keeps_below (pool_of pool.format pool.game (nodes_up_to c.args.root pool.nodes))
    (IsLegal-from_pool pool c.args.root c.len-count.ensures.legal c.requires.whole_game c.requires.root)
