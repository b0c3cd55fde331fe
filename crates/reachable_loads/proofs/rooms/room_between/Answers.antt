use Rattle.std.proofs.Common.{◌≡◌, ◌++◌, ◌∷◌, [], ◌∙◌, drop, reverse, sym, ap, subst, length, arith}
use Rattle.items.specs.Multiset.{IsSize, Same}
use Rattle.items.proofs.SameLemmas.{Same-push, Same-sym}
use Rattle.packing_witness.proofs.PackableLemmas.{Packable-Same}
use Rattle.reachable_loads.proofs.DescendingLemmas.{All-reverse, Same-reverse}
use Rattle.reachable_loads.proofs.RoomLemmas.{IsRoom-Same}
use Rattle.reachable_loads.proofs.rooms.room_between.Goals as goal
use Rattle.reachable_loads.proofs.rooms.room_between.Goals.{After-as_mut_slice}

-- the list after its first place has the items
whole : (c : After-as_mut_slice) → c.as_mut_slice.result.now ≡ c.args.most ∷ reverse c.args.items.now
whole c =
    c.as_mut_slice.ensures.value ∙ c.in_ok-push_descending.ensures
    ∙ ap (λ xs. xs ++ reverse c.args.items.now) (c.in_ok-push.ensures.items ∙ ap (λ xs. xs ++ c.args.most ∷ []) c.in_ok-list.ensures.items)

same : (c : After-as_mut_slice) → Same (drop 1 c.as_mut_slice.result.now) c.args.items.now
same c = subst (λ xs. Same (drop 1 xs) c.args.items.now) (sym (whole c)) (Same-reverse c.args.items.now)

pub room_by_placing-requires-clause-first : goal.room_by_placing-requires-clause-first
room_by_placing-requires-clause-first c = omega (arith, ap length (whole (goal.at.room_by_placing-requires-clause-first c).After-as_mut_slice))

pub room_by_placing-requires-clause-sizes : goal.room_by_placing-requires-clause-sizes
room_by_placing-requires-clause-sizes c =
    All-reverse (IsSize c.args.game.now.capacity) c.args.items.now (drop 1 c.as_mut_slice.result.now)
    (ap (drop 1) (whole (goal.at.room_by_placing-requires-clause-sizes c).After-as_mut_slice))
    (c.requires.between.sizes (omega (arith, c.requires.between.order, c.requires.apart)))

pub room_by_placing-requires-clause-may_come : goal.room_by_placing-requires-clause-may_come
room_by_placing-requires-clause-may_come c some =
    let list = drop 1 c.as_mut_slice.result.now in
    let s = same (goal.at.room_by_placing-requires-clause-may_come c).After-as_mut_slice in
    Packable-Same c.args.game.now (c.args.items.now ++ c.args.least ∷ []) (list ++ c.args.least ∷ []) (Same-push c.args.items.now list c.args.least
    (Same-sym list c.args.items.now s)) (c.requires.between.may_come some)

pub room_by_placing-requires-clause-bound : goal.room_by_placing-requires-clause-bound
room_by_placing-requires-clause-bound c size p =
    let list = drop 1 c.as_mut_slice.result.now in
    let s = same (goal.at.room_by_placing-requires-clause-bound c).After-as_mut_slice in
    c.requires.between.bound size (Packable-Same c.args.game.now (list ++ size ∷ []) (c.args.items.now ++ size ∷ []) (Same-push list c.args.items.now size s) p)

pub returns : goal.returns
returns c =
    record {
      exact = IsRoom-Same c.args.game.now (drop 1 c.as_mut_slice.result.now) c.args.items.now c.in_ok-room.room
          (same (goal.at.returns c).After-as_mut_slice) c.in_ok-room.ensures;
    }
