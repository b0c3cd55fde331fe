use Rattle.minimise.proofs.UpgradeLemmas.{upgrades_are_legal}
use Rattle.minimise.proofs.laws.upgrades_are_legal.Goals as goal

pub returns : goal.returns
returns c = record { legal = upgrades_are_legal }
