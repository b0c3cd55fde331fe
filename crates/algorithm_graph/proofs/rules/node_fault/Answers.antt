use Rattle.std.proofs.Common.{subst}
use Rattle.std.specs.Option.{MatchOption}
use Rattle.std.specs.Result.{IfOk}
use Rattle.node_pool.specs.Terms.{Terms}
use Rattle.algorithm_graph.specs.Rules.{Breaks, MeetsRules}
use Rattle.algorithm_graph.proofs.rules.node_fault.Goals as goal

pub returns : goal.returns
returns g c =
    let earlier = g.E.EarlierPositions.positions c.args.earlier.now in
    let last = c.args.last in
    let node = c.args.node.now in
    record {
      exact = subst (λ (terms : Terms). IfOk c.judge.result (λ fault. MatchOption fault (MeetsRules terms.game terms.sizes earlier last node)
          (Breaks terms.game terms.sizes earlier last node))) c.of_game.ensures.value c.judge.ensures.exact;
    }
