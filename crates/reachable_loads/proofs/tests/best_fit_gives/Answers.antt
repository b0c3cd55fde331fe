use Rattle.std.proofs.Common.{◌∙◌, arith}
use Rattle.items.specs.Multiset.{IsSize}
use Rattle.reachable_loads.proofs.DescendingLemmas.{All-reverse}
use Rattle.reachable_loads.proofs.PackLemmas.{sizes_from_largest}
use Rattle.reachable_loads.proofs.tests.best_fit_gives.Goals as goal

pub best_fit-requires : goal.best_fit-requires
best_fit-requires c =
    All-reverse (IsSize c.args.game.now.capacity) c.args.items.now c.as_slice.result.now (c.as_slice.ensures.value ∙ c.in_ok-list.ensures)
    (sizes_from_largest c.args.game.now c.args.items.now c.largest.ensures.multiset (omega (arith, c.if-largest-g.false, c.largest.ensures.value, c.g.ensures.value)))
