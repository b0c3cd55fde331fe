use Rattle.std.proofs.Common.{arith}
use Rattle.reachable_loads.proofs.RoomLemmas.{IsRoom-between, IsRoomBetween-from}
use Rattle.reachable_loads.proofs.rooms.room_bounds.Goals as goal

pub returns-then-most-eq0-clause-between : goal.returns-then-most-eq0-clause-between
returns-then-most-eq0-clause-between c =
    IsRoomBetween-from c.args.game.now c.args.items.now 0 0 (omega arith) (λ some. absurd (omega (arith, some)))
    (λ size p. omega (arith, c.requires.bound size p, c.room_by_volume.ensures.bound size p, c.min-most.ensures, c.if-most-eq0.true))
    (λ some. absurd (omega (arith, some)))

pub returns-then-most-eq0-clause-room : goal.returns-then-most-eq0-clause-room
returns-then-most-eq0-clause-room c e = IsRoom-between c.args.game.now c.args.items.now 0 0 (returns-then-most-eq0-clause-between c) e

pub returns-clause-between : goal.returns-clause-between
returns-clause-between c =
    let volume = c.room_by_volume.ensures in
    IsRoomBetween-from c.args.game.now c.args.items.now c.room_by_best_fit.result c.min-most.result (omega (arith, volume.within, c.min-most.ensures))
    c.room_by_best_fit.ensures.may_come (λ size p. omega (arith, c.requires.bound size p, volume.bound size p, c.min-most.ensures))
    (λ some. volume.sizes (omega (arith, some, c.min-most.ensures)))

pub returns-clause-room : goal.returns-clause-room
returns-clause-room c e = IsRoom-between c.args.game.now c.args.items.now c.room_by_best_fit.result c.min-most.result (returns-clause-between c) e
