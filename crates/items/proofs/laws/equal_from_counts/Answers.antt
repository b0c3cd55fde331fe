use Rattle.items.proofs.MultisetLemmas.{same_ascending}
use Rattle.items.proofs.laws.equal_from_counts.Goals as goal

pub returns : goal.returns
returns c = same_ascending
