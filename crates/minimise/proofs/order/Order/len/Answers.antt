use Rattle.std.proofs.Common.{arith}
use Rattle.minimise.proofs.OrderLemmas.{length-le_count}
use Rattle.minimise.proofs.order.Order.len.Goals as goal

pub overflow_cast-result : goal.overflow_cast-result
overflow_cast-result c = record { fits = omega (arith, c.len.ensures, length-le_count c.self.inside.numbers.items _ c.self.invariant.legal) }
