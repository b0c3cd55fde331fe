use Rattle.minimise.proofs.StrategyLemmas.{canonical_forms_have_no_more_nodes as law}
use Rattle.minimise.proofs.laws.canonical_forms_have_no_more_nodes.Goals as goal

pub returns : goal.returns
returns c = law
