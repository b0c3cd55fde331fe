use Rattle.std.proofs.Common.{take}
use Rattle.items.specs.Multiset.{Same}
use Rattle.match_player.proofs.answers.multiset_of.Given as goal

abbrev pub invariant-loop-size : goal.invariant-loop-size
invariant-loop-size l = Same (take l.size-index l.list) l.items
