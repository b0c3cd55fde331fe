use Rattle.std.proofs.Common.{◌≡◌, take}
use Rattle.std.specs.List.{concat}
use Rattle.items.specs.Multiset.{count}
use Rattle.adversary_graph.proofs.plays.times_in_bins.Given as goal

abbrev pub invariant-loop-bin : goal.invariant-loop-bin
invariant-loop-bin l = l.total ≡ count l.size (concat (take l.bin-index l.bins))
