use Rattle.std.proofs.Common.{ap}
use Rattle.items.specs.Multiset.{count}
use Rattle.loads.proofs.CountLemmas.{equal_from_Same}
use Rattle.loads.proofs.laws.loads_are_their_multiset.Goals as goal

pub returns : goal.returns
returns c = (
  λ e x. ap (count x) e,
  equal_from_Same c.args.first.now c.args.second.now c.as_slice-first.ensures.loads.descending c.as_slice-second.ensures.loads.descending,
)
