use Rattle.std.proofs.Common.{◌<◌, ◌∙◌, sym, subst}
use Rattle.minimise.specs.Ordering.{Ordering}
use Rattle.minimise.proofs.OrderLemmas.{place_at}
use Rattle.minimise.proofs.order.Order.place.Goals as goal

pub returns : goal.returns
returns c =
    let below = subst (λ (o : Ordering). c.args.number < o.count) (sym c.self.view_is) c.requires in
    rw (← c.self.view_is) (c.index.ensures ∙ place_at c.self.inside.numbers.items c.self.inside.places.items c.args.number c.index.result.now c.self.invariant below)
