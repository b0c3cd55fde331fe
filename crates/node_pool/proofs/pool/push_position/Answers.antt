use Rattle.std.proofs.Common.{◌≡◌, ◌+◌, ◌++◌, ◌∷◌, [], List, map, take, subst}
use Rattle.std.specs.Result.{OnOk}
use Rattle.loads.specs.Position.{position as position_at}
use Rattle.loads.specs.declared.position.Position.{Position}
use Rattle.loads.proofs.LoadsLemmas.{AreLoads-of_game}
use Rattle.node_pool.proofs.PoolLemmas.{node_position, positions_past, sizes_up_to_120}
use Rattle.node_pool.proofs.pool.push_position.Goals as goal

pub push_lists-requires-clause-loads : goal.push_lists-requires-clause-loads
push_lists-requires-clause-loads g c =
    let rules = g.R.NodeRules in
    let pool = c.args.nodes.now in
    let legal = c.len-count.ensures.legal in
    let here = node_position rules.position rules.IsOfFormat rules.MeetsRules g.met.R.NodeRules.rules_give_a_position pool c.args.number
    c.node-node.result.now legal c.node-node.ensures.value in
    rw c.loads.ensures (AreLoads-of_game pool.game (rules.position c.node-node.result.now).loads legal.of_game here.loads)

pub push_lists-requires-clause-items : goal.push_lists-requires-clause-items
push_lists-requires-clause-items g c =
    let rules = g.R.NodeRules in
    let pool = c.args.nodes.now in
    let legal = c.len-count.ensures.legal in
    let here = node_position rules.position rules.IsOfFormat rules.MeetsRules g.met.R.NodeRules.rules_give_a_position pool c.args.number
    c.node-node.result.now legal c.node-node.ensures.value in
    rw c.items.ensures (sizes_up_to_120 pool.game.capacity (rules.position c.node-node.result.now).items legal.of_game.capacity.high here.items)

pub returns-clause-ok : goal.returns-clause-ok
returns-clause-ok g c =
    let position = g.R.NodeRules.position in
    let nodes = c.args.nodes.now.nodes in
    let whole = positions_past position nodes c.args.number c.node-node.result.now c.node-node.ensures.value in
    let e : c.args.positions.now ++ position_at c.loads.result.now c.items.result.now ∷ [] ≡ map position (take (c.args.number + 1) nodes) =
    rw (c.loads.ensures, c.items.ensures, c.requires.before) whole in
    subst (λ (positions : List Position). OnOk c.push_lists.result (c.push_lists.new.self ≡ positions)) e c.push_lists.ensures.ok
