use Rattle.minimise.proofs.StrategyLemmas.{canonical_forms_stay as law}
use Rattle.minimise.proofs.laws.canonical_forms_stay.Goals as goal

pub returns : goal.returns
returns c = law
