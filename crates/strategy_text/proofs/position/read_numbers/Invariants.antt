use Rattle.std.proofs.Common.{◌≡◌, length}
use Rattle.strategy_text.specs.Reading.{numbers_at}
use Rattle.strategy_text.proofs.Loops.{numbers_so_far}
use Rattle.strategy_text.proofs.position.read_numbers.Given as goal

abbrev pub invariant-loop-number : goal.invariant-loop-number
invariant-loop-number l = numbers_so_far l.list l.left ≡ numbers_at l.initial.words

abbrev pub decreases-loop-number : goal.decreases-loop-number
decreases-loop-number l = length l.left
