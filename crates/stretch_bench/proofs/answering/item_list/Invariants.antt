use Rattle.std.proofs.Common.{◌≡◌, All, take, map, decimal}
use Rattle.items.specs.Multiset.{IsSize}
use Rattle.stretch_bench.specs.Answer.{most_item}
use Rattle.stretch_bench.specs.Commands.{spelling_of}
use Rattle.stretch_bench.proofs.answering.item_list.Given as goal

abbrev pub invariant-loop-word : goal.invariant-loop-word
invariant-loop-word l = (spelling_of (take l.word-index l.words) ≡ map decimal l.items) × All (IsSize most_item) l.items
