use Rattle.good_situations.proofs.OrderLemmas.{Same-ordered_bins, ordered_bins_go_by_load}
use Rattle.good_situations.proofs.laws.orders_go_by_load.Goals as goal

pub returns-clause-each : goal.returns-clause-each
returns-clause-each c = Same-ordered_bins

pub returns-clause-sorted : goal.returns-clause-sorted
returns-clause-sorted c = ordered_bins_go_by_load
