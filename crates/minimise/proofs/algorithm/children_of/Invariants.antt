use Rattle.std.proofs.Common.{◌≡◌, take, map}
use Rattle.strategy_text.specs.declared.node.Entry.{Entry}
use Rattle.minimise.proofs.algorithm.children_of.Given as goal

abbrev pub invariant-loop-entry : goal.invariant-loop-entry
invariant-loop-entry l = l.children.items ≡ map (λ (entry : Entry). entry.to) (take l.entry-index l.entries)
