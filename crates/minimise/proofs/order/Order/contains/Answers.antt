use Rattle.std.proofs.Common.{◌<◌, sym, subst}
use Rattle.minimise.specs.Ordering.{IsOrdering, Ordering}
use Rattle.minimise.proofs.OrderLemmas.{placed_exactly}
use Rattle.minimise.proofs.order.Order.contains.Goals as goal

pub returns-clause-value : goal.returns-clause-value
returns-clause-value c =
    let below = subst (λ (o : Ordering). c.args.number < o.count) (sym c.self.view_is) c.requires in
    rw (← c.self.view_is, c.is_some.ensures)
    (placed_exactly c.self.inside.numbers.items c.self.inside.places.items c.args.number c.index.result.now c.self.invariant below c.index.ensures)

pub returns-clause-legal : goal.returns-clause-legal
returns-clause-legal c = subst IsOrdering c.self.view_is c.self.invariant.legal
