use Rattle.items.proofs.MultisetLemmas.{IsNonDecreasing-put_times, Same-push_times, sum-put_times}
use Rattle.items.proofs.laws.put_times_in_order.Goals as goal

pub returns : goal.returns
returns c = record { ascending = IsNonDecreasing-put_times; end = Same-push_times; total = sum-put_times }
