use Rattle.std.proofs.Common.{◌≡◌}
use Rattle.minimise.proofs.OrderLemmas.{no_places}
use Rattle.minimise.proofs.order.Order.new.Given as goal

abbrev pub invariant-loop-number : goal.invariant-loop-number
invariant-loop-number l = l.places.items ≡ no_places l._number
