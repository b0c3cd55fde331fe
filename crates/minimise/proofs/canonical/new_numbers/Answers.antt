use Rattle.minimise.specs.Canonical.{place}
use Rattle.minimise.proofs.NodeLemmas.{mapped_more}
use Rattle.minimise.proofs.canonical.new_numbers.Goals as goal

pub loop-number-preserved : goal.loop-number-preserved
loop-number-preserved c =
    mapped_more (λ number. place number c.args.order.now.numbers) c.args.least.now c.loop-number.numbers.items c.push.new.self.items
    c.loop-number.number-index _ c.new_number.result c.loop-number-test.true c.loop-number.invariant c.new_number.ensures c.in_ok-push.ensures.items
