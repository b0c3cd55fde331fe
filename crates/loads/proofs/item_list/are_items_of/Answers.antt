use Rattle.std.proofs.Common.{◌≡◌, suc, ◌+◌, drop, get_or, arith, refl}
use Rattle.std.proofs.Math.Seq.{drop-cons}
use Rattle.loads.proofs.ItemListLemmas.{FollowOn-all, FollowOn-more}
use Rattle.loads.proofs.item_list.are_items_of.Goals as goal

pub loop-item-init : goal.loop-item-init
loop-item-init c = FollowOn-all c.args.sizes.now c.args.loads.now c.args.items.now c.total_of-left.result c.total_of-left.ensures

pub loop-item-preserved : goal.loop-item-preserved
loop-item-preserved c =
    let i = c.loop-item.item-index in
    let items = c.args.items.now in
    let sizes = c.args.sizes.now in
    let next : suc i ≡ i + 1 = omega arith in
    let step = rw next at (drop-cons items i 0 c.loop-item-test.true) in
    let on = rw step at c.loop-item.invariant in
    let more = FollowOn-more sizes c.loop-item.low c.loop-item.left (get_or items i 0) (drop (i + 1) items) (omega arith) (omega arith) (c.if-not-contains.ensures.exact.0 refl) in
    (λ are. more.0 (on.0 are), λ f. on.1 (more.1 f))
