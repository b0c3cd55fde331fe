use Rattle.loads.proofs.DistinctLemmas.{IsStrictlyDescending-distinct, Contains-distinct, Contains-from_distinct}
use Rattle.loads.proofs.laws.distinct_loads_descend.Goals as goal

pub returns-clause-descend : goal.returns-clause-descend
returns-clause-descend c = IsStrictlyDescending-distinct c.args.loads.now c.as_slice-loads.ensures.loads.descending

pub returns-clause-numbers : goal.returns-clause-numbers
returns-clause-numbers c = λ load. (Contains-from_distinct load c.args.loads.now, Contains-distinct load c.args.loads.now)
