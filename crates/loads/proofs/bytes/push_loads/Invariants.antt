use Rattle.std.proofs.Common.{◌≡◌, ◌++◌, take}
use Rattle.loads.proofs.bytes.push_loads.Given as goal

abbrev pub invariant-loop-load : goal.invariant-loop-load
invariant-loop-load l = l.bytes.items ≡ l.initial.bytes.items ++ take l.load-index l.loads
