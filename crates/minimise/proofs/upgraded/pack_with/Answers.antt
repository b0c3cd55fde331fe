use Rattle.std.proofs.Common.{arith}
use Rattle.minimise.proofs.PackLemmas.{packed_with, too_many}
use Rattle.minimise.proofs.upgraded.pack_with.Goals as goal

pub returns-then-total-from : goal.returns-then-total-from
returns-then-total-from c =
    too_many c.args.game.now c.args.items.now c.args.size c.args.count c.m.result c.g.result c.from.result c.from-2.result c.from-3.result
    c.m.ensures.value c.g.ensures.value (omega (arith, c.from.ensures, c.volume.ensures.value)) c.from-2.ensures c.from-3.ensures
    (omega (arith, c.if-total-from.true, c.from-4.ensures))

pub returns : goal.returns
returns c = packed_with c.args.game.now c.args.items.now c.add_times.result c.args.size c.args.count c.in_ok-found.found c.add_times.ensures.added c.in_ok-found.ensures.exact
