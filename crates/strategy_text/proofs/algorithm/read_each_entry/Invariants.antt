use Rattle.std.proofs.Common.{length}
use Rattle.strategy_text.specs.Reading.{more_words, entry_at, prepended, each_at}
use Rattle.strategy_text.proofs.Loops.{Goes}
use Rattle.strategy_text.proofs.algorithm.read_each_entry.Given as goal

abbrev pub invariant-loop-words : goal.invariant-loop-words
invariant-loop-words l = Goes more_words entry_at l.entries l.words (prepended l.initial.entries (each_at more_words entry_at l.initial.words))

abbrev pub decreases-loop-words : goal.decreases-loop-words
decreases-loop-words l = length l.words
