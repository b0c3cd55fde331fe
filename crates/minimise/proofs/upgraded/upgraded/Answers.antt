use Rattle.minimise.proofs.UpgradeLemmas.{legal_can_upgrade, upgrade_is_legal, upgrade_number, upgrade_side}
use Rattle.minimise.proofs.upgraded.upgraded.Goals as goal

pub upgraded_nodes-requires : goal.upgraded_nodes-requires
upgraded_nodes-requires c =
    let s = c.args.strategy.now in
    record { can = legal_can_upgrade s.format s.game s.nodes c.requires.legal }

pub returns-clause-legal : goal.returns-clause-legal
returns-clause-legal c =
    let s = c.args.strategy.now in
    upgrade_is_legal s.format s.game s.nodes c.in_ok-upgraded_nodes.field-0 c.requires.legal c.in_ok-upgraded_nodes.ensures

pub returns-clause-side : goal.returns-clause-side
returns-clause-side c = upgrade_side c.args.strategy.now.game c.args.strategy.now.nodes c.in_ok-upgraded_nodes.field-0 c.in_ok-upgraded_nodes.ensures

pub returns-clause-number : goal.returns-clause-number
returns-clause-number c = upgrade_number c.args.strategy.now.game c.args.strategy.now.nodes c.in_ok-upgraded_nodes.field-0 c.in_ok-upgraded_nodes.ensures
