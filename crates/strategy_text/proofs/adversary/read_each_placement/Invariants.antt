use Rattle.std.proofs.Common.{codes, length}
use Rattle.strategy_text.specs.Words.{after}
use Rattle.strategy_text.specs.Reading.{placement_at, prepended, each_at}
use Rattle.strategy_text.proofs.Loops.{Goes}
use Rattle.strategy_text.proofs.adversary.read_each_placement.Given as goal

abbrev pub invariant-loop-words : goal.invariant-loop-words
invariant-loop-words l = Goes (after (codes "on")) placement_at l.placements l.words (prepended l.initial.placements (each_at (after (codes "on")) placement_at l.initial.words))

abbrev pub decreases-loop-words : goal.decreases-loop-words
decreases-loop-words l = length l.words
