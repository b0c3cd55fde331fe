use Rattle.std.proofs.Common.{get_or, ◌∙◌}
use Rattle.items.specs.Multiset.{MayFollow}
use Rattle.items.proofs.MultisetLemmas.{MayFollow-take, IsMultiset-put_ascending, take-put_ascending}
use Rattle.loads.proofs.item_list.items_of_list.Goals as goal
use Rattle.loads.proofs.item_list.items_of_list.Goals.{In-loop-size}

-- the next size may follow the items so far
follows : (c : In-loop-size) → MayFollow 120 c.loop-size.items (get_or c.args.list.now c.loop-size.size-index 0)
follows c = rw c.loop-size.invariant.so_far (MayFollow-take 120 c.loop-size.size-index c.args.list.now c.requires c.loop-size-test.true)

pub loop-size-preserved : goal.loop-size-preserved
loop-size-preserved c =
    let d = (goal.at.loop-size-preserved c).In-loop-size in
    let next = get_or c.args.list.now c.loop-size.size-index 0 in
    record {
      so_far = c.put.ensures.added ∙ take-put_ascending 120 _ _ _ c.loop-size.invariant.so_far c.loop-size.invariant.multiset c.loop-size-test.true (follows d);
      multiset = rw c.put.ensures.added (IsMultiset-put_ascending 120 next c.loop-size.items c.loop-size.invariant.multiset (follows d));
    }
