use Rattle.loads.proofs.LoadsLemmas.{sum-loads_after, length-loads_after}
use Rattle.loads.proofs.laws.an_item_adds_its_size.Goals as goal

pub returns-clause-sum : goal.returns-clause-sum
returns-clause-sum c = sum-loads_after _ _ _ c.requires

pub returns-clause-number : goal.returns-clause-number
returns-clause-number c = length-loads_after _ _ _ c.requires
