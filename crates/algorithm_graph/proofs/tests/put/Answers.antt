use Rattle.std.proofs.Common.{arith, sym, subst}
use Rattle.strategy_text.specs.declared.node.Format.{Format}
use Rattle.algorithm_graph.specs.Nodes.{IsOfFormat}
use Rattle.algorithm_graph.proofs.PoolLemmas.{may_come_next}
use Rattle.algorithm_graph.proofs.tests.put.Goals as goal

pub push-requires : goal.push-requires
push-requires c =
    record {
      next = may_come_next c.args.pool.now c.in_ok-node.node c.terms.result.now c.positions.result.now c.in_ok-fault.fault c.terms.ensures.value
          c.positions.ensures.value c.in-None.is c.in_ok-fault.ensures.exact (omega (arith, c.len.ensures.value, c.if-len-ge4000000000.false))
          (subst (λ (f : Format). IsOfFormat f c.in_ok-node.node.act) (sym c.requires) tt);
    }
