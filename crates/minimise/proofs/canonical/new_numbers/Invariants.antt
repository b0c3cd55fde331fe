use Rattle.std.proofs.Common.{◌≡◌, take, map}
use Rattle.minimise.specs.Canonical.{place}
use Rattle.minimise.proofs.canonical.new_numbers.Given as goal

abbrev pub invariant-loop-number : goal.invariant-loop-number
invariant-loop-number l = l.numbers.items ≡ map (λ number. place number l.order.numbers) (take l.number-index l.least)
