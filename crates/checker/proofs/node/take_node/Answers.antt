use Rattle.checker.proofs.NodeLemmas.{items_are_a_multiset}
use Rattle.checker.specs.Progress.{any_node, told_by}
use Rattle.std.proofs.Common.{length, ◌+◌, ◌==◌}
use Rattle.checker.proofs.node.take_node.Goals as goal

pub push_lists-requires-clause-items : goal.push_lists-requires-clause-items
push_lists-requires-clause-items c =
    rw c.lists_of.ensures.items (items_are_a_multiset (told_by c.args.head.now) c.args.earlier.now (length c.args.earlier.now + 1 == c.args.head.now.count)
    (any_node c.next_node.new.node) c.game-game.ensures.legal.of_game c.game-game.ensures.legal.sizes c.in_ok-see_follows.ensures.ok)
