use Rattle.std.proofs.Common.{◌≤◌, codes, length, take}
use Rattle.strategy_text.specs.Words.{after}
use Rattle.strategy_text.specs.Reading.{list_at, prepended, each_at}
use Rattle.strategy_text.proofs.Loops.{Goes}
use Rattle.strategy_text.proofs.adversary.read_bins.Given as goal

abbrev pub invariant-loop-packing : goal.invariant-loop-packing
invariant-loop-packing l =
    (l.count ≤ length l.packing)
    × Goes (after (codes "/")) list_at (take l.count l.packing) l.words
    (prepended (take l.initial.count l.initial.packing) (each_at (after (codes "/")) list_at l.initial.words))

abbrev pub decreases-loop-packing : goal.decreases-loop-packing
decreases-loop-packing l = length l.words
