use Rattle.std.proofs.Common.{◌≡◌}
use Rattle.strategy_transfer.specs.Weakened.{new_number}
use Rattle.strategy_transfer.specs.Weakening.{IsNumbered}
use Rattle.strategy_transfer.proofs.weakened.new_numbers.Given as goal

abbrev pub invariant-loop-node : goal.invariant-loop-node
invariant-loop-node l =
    IsNumbered l.t l.nodes l.node-index l.numbers.items × (l.number ≡ new_number l.t l.nodes l.node-index)
