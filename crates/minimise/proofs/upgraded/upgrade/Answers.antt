use Rattle.minimise.proofs.UpgradeLemmas.{canonical_upgrade}
use Rattle.minimise.proofs.upgraded.upgrade.Goals as goal

pub returns-clause-upgrade : goal.returns-clause-upgrade
returns-clause-upgrade c = canonical_upgrade c.args.strategy.now c.in_ok-made.made c.minimise.result c.in_ok-made.ensures.upgrade c.minimise.ensures.exact
