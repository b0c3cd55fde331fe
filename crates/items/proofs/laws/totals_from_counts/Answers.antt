use Rattle.items.proofs.MultisetLemmas.{sum-Same, length-Same}
use Rattle.items.proofs.laws.totals_from_counts.Goals as goal

pub returns : goal.returns
returns c = record { total = sum-Same; length = length-Same }
