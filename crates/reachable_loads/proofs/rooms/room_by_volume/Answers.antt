use Rattle.std.proofs.Common.{◌≡◌, ◌∙◌, ◌*◌, ap, arith}
use Rattle.packing_witness.proofs.PackableLemmas.{Packable-prefix}
use Rattle.reachable_loads.proofs.PackLemmas.{sizes_from_largest, not_packable_from_largest}
use Rattle.reachable_loads.proofs.RoomLemmas.{bound_by_volume}
use Rattle.reachable_loads.proofs.rooms.room_by_volume.Goals as goal

pub returns-then-largest-capacity-clause-bound : goal.returns-then-largest-capacity-clause-bound
returns-then-largest-capacity-clause-bound c size p =
    absurd (not_packable_from_largest c.args.game.now c.args.items.now (omega (arith, c.if-largest-capacity.true, c.largest.ensures.value, c.g-capacity.ensures.value))
    (Packable-prefix c.args.game.now c.args.items.now size p))

pub returns-clause-bound : goal.returns-clause-bound
returns-clause-bound c size p =
    let b = bound_by_volume c.args.game.now c.args.items.now size p in
    let area : c.m-bins.result * c.g-capacity.result ≡ c.args.game.now.bins * c.args.game.now.capacity = ap (λ n. n * c.g-capacity.result) c.m-bins.ensures.value
    ∙ ap (λ n. c.args.game.now.bins * n) c.g-capacity.ensures.value in
    omega (arith, b.0, b.1, area, c.min.ensures, c.saturating_sub.ensures, c.volume.ensures.value, c.g-capacity.ensures.value)

pub returns-clause-sizes : goal.returns-clause-sizes
returns-clause-sizes c some =
    sizes_from_largest c.args.game.now c.args.items.now c.largest.ensures.multiset (omega (arith, c.if-largest-capacity.false, c.largest.ensures.value, c.g-capacity.ensures.value))
