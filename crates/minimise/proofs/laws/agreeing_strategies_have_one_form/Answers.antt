use Rattle.minimise.proofs.StrategyLemmas.{agreeing_strategies_have_one_form as law}
use Rattle.minimise.proofs.laws.agreeing_strategies_have_one_form.Goals as goal

pub returns : goal.returns
returns c = law
