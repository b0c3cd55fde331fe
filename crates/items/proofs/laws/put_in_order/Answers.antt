use Rattle.items.proofs.MultisetLemmas.{IsNonDecreasing-put_ascending, count-put_ascending, Same-push_put, sum-put_ascending}
use Rattle.items.proofs.laws.put_in_order.Goals as goal

pub returns : goal.returns
returns c = record {
  ascending = IsNonDecreasing-put_ascending;
  counts = λ x y xs. count-put_ascending y x xs;
  end = Same-push_put;
  total = sum-put_ascending;
}
