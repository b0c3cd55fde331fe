use Rattle.std.proofs.Common.{◌∙◌, sym, subst}
use Rattle.node_pool.specs.Pools.{AreLegal}
use Rattle.node_pool.specs.Terms.{whole_game}
use Rattle.node_pool.proofs.PoolLemmas.{IsPool-from_legal, root_of_legal}
use Rattle.node_pool.proofs.judged.JudgedNodes.from_strategy.Goals as goal

pub invariant_of-result : goal.invariant_of-result
invariant_of-result g c =
    let rules = g.R.NodeRules in
    let terms = whole_game c.args.strategy.format c.args.strategy.game in
    let same = g.met.R.NodeRules.sides_differ c.requires.legal.0 c.from_strategy_nodes.result (sym c.requires.legal.1 ∙ c.from_strategy_nodes.ensures) in
    let legal = subst (AreLegal rules.position rules.IsOfFormat rules.MeetsRules terms) same c.requires.legal.2 in
    let of_game = rw c.of_game-terms.ensures.value at c.format-format.ensures.legal in
    rw c.of_game-terms.ensures.value (IsPool-from_legal rules.position rules.IsOfFormat rules.MeetsRules
    g.met.R.NodeRules.root_is_asked_last terms c.from_strategy_nodes.result of_game legal)

pub returns-clause-root : goal.returns-clause-root
returns-clause-root g c =
    let rules = g.R.NodeRules in
    let terms = whole_game c.args.strategy.format c.args.strategy.game in
    let same = g.met.R.NodeRules.sides_differ c.requires.legal.0 c.from_strategy_nodes.result (sym c.requires.legal.1 ∙ c.from_strategy_nodes.ensures) in
    root_of_legal rules.position rules.IsOfFormat rules.MeetsRules g.met.R.NodeRules.root_is_asked_last
    terms c.from_strategy_nodes.result (subst (AreLegal rules.position rules.IsOfFormat rules.MeetsRules terms) same c.requires.legal.2)
