use Rattle.minimise.specs.Upgrade.{UpgradesAdversary}
use Rattle.minimise.proofs.PackLemmas.{zip_more}
use Rattle.minimise.proofs.upgraded.of_adversary.Goals as goal

pub loop-node-preserved : goal.loop-node-preserved
loop-node-preserved c =
    let l = c.loop-node in
    zip_more (UpgradesAdversary c.args.game.now) c.args.nodes.now l.news c.push.new.self l.node-index c.node-item.result
    c.in_ok-adversary_node.field-0 c.loop-node-test.true c.node-item.is l.invariant c.in_ok-adversary_node.ensures c.in_ok-push.ensures.ok
