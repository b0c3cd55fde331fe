use Rattle.std.proofs.Common.{◌≡◌, map, take}
use Rattle.report.proofs.drill.packing_of.Given as goal

abbrev pub invariant-loop-bin : goal.invariant-loop-bin
invariant-loop-bin l = l.packing ≡ map (λ bin. bin.now) (take l.bin-index l.bins)
