use Rattle.std.proofs.Common.{arith, sym, subst, []}
use Rattle.minimise.specs.Ordering.{IsPlaced}
use Rattle.minimise.proofs.OrderLemmas.{IsPlaced-none}
use Rattle.minimise.proofs.order.Order.new.Goals as goal

pub invariant_of-result : goal.invariant_of-result
invariant_of-result c =
    subst (λ numbers. IsPlaced numbers c.loop-number.places.items) (sym c.new.ensures.items)
    (subst (IsPlaced []) (sym c.loop-number.invariant) (IsPlaced-none c.loop-number._number (omega (arith, c.loop-number.auto._number-end, c.requires))))
