use Rattle.strategies.proofs.SideLemmas.{legal_by_side, legal_of_one_side}
use Rattle.strategies.proofs.laws.a_legal_strategy_is_of_one_side.Goals as goal

pub returns : goal.returns
returns c = record { either = legal_of_one_side; by_side = legal_by_side }
