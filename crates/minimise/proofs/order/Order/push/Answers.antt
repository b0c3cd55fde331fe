use Rattle.std.proofs.Common.{◌<◌, Some, arith, set, sym, subst}
use Rattle.std.specs.Prelude.{Contains}
use Rattle.minimise.specs.Ordering.{IsPlaced, Ordering}
use Rattle.minimise.proofs.OrderLemmas.{IsPlaced-push, length-le_count}
use Rattle.minimise.proofs.order.Order.push.Goals as goal

pub overflow_cast-place : goal.overflow_cast-place
overflow_cast-place c = record { fits = omega (arith, c.len-place.ensures, length-le_count c.self.inside.numbers.items _ c.self.invariant.legal) }

pub invariant_of-self-2 : goal.invariant_of-self-2
invariant_of-self-2 c =
    let below = subst (λ (o : Ordering). c.args.number < o.count) (sym c.self.view_is) c.requires.below in
    let new = subst (λ (o : Ordering). Contains o.numbers c.args.number → ⊥) (sym c.self.view_is) c.requires.new in
    subst (λ list. IsPlaced list (set c.self.inside.places.items c.args.number (Some c.len-place.result))) (sym c.in_ok-push.ensures.items)
    (IsPlaced-push c.self.inside.numbers.items c.self.inside.places.items c.args.number c.len-place.result c.self.invariant below new (omega (arith, c.len-place.ensures)))
