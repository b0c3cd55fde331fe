use Rattle.strategy_transfer.specs.Weakening.{ShowEndPackings}
use Rattle.strategy_transfer.proofs.ends.packed_nodes.Given as goal

abbrev pub invariant-loop-number : goal.invariant-loop-number
invariant-loop-number l = ShowEndPackings l.nodes l.number l.packed.items
