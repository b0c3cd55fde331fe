use Rattle.std.proofs.Common.{subst}
use Rattle.items.specs.Multiset.{sizes_of}
use Rattle.algorithm_graph.specs.Legal.{IsLegal}
use Rattle.algorithm_graph.proofs.PoolLemmas.{IsLegal-from_pool}
use Rattle.algorithm_graph.proofs.file.FileAlgorithm.see_legal.Goals as goal

pub returns : goal.returns
returns c = record {
  legal = subst (λ file. IsLegal file.format file.game (sizes_of file.game) file.nodes) c.self.view_is
      (IsLegal-from_pool c.self.inside.nodes c.self.inside.root c.len-count.ensures.legal c.self.invariant.1 c.self.invariant.0);
}
