use Rattle.std.proofs.Common.{subst}
use Rattle.items.specs.Packable.{IsRoom}
use Rattle.algorithm_graph.proofs.SizesLemmas.{HaveRoom-from_room}
use Rattle.algorithm_graph.proofs.rules.room_after.Goals as goal

pub returns : goal.returns
returns c =
    let game = c.args.game.now in
    let room = c.in_ok-room.room in
    let made = rw c.unwrap-items.ensures at c.from_slice.ensures.exact in
    HaveRoom-from_room game c.args.items.now room (subst (λ items. IsRoom game items room) made.0 c.in_ok-room.ensures.exact)
