use Rattle.std.proofs.Common.{arith, sym, subst}
use Rattle.strategy_text.specs.declared.node.Format.{Format}
use Rattle.algorithm_graph.specs.Nodes.{IsOfFormat}
use Rattle.algorithm_graph.proofs.PoolLemmas.{may_come_next}
use Rattle.report.proofs.tests.push_algorithm.Goals as goal

pub push-requires : goal.push-requires
push-requires c =
    record {
      next = may_come_next c.args.pool.now c.args.node c.terms.result.now c.positions.result.now _ c.terms.ensures.value c.positions.ensures.value
          c.in-None.is c.in_ok-_rule.ensures.exact (omega (arith, c.len.ensures.value, c.if-len-ge4000000000.false))
          (subst (λ (f : Format). IsOfFormat f c.args.node.act) (sym c.requires) tt);
    }
