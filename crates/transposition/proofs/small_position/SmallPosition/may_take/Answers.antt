use Rattle.std.proofs.Common.{◌≡◌, ◌∙◌, ap, arith}
use Rattle.std.proofs.lemmas.Bool.{lt-leb}
use Rattle.items.specs.Counters.{expanded}
use Rattle.transposition.proofs.SmallLemmas.{small_with, large_with}
use Rattle.transposition.proofs.small_position.SmallPosition.may_take.Goals as goal

pub returns-then-s-le-SIZES : goal.returns-then-s-le-SIZES
returns-then-s-le-SIZES c =
    let counters = c.self.inside.counters in
    let e : expanded 1 counters ≡ c.args.self.now.items = ap (λ r. r.items) c.self.view_is in
    rw (c.from.ensures, ← e) (small_with c.args.s c.self.inside.volume counters c.self.told.1 c.self.invariant.volume_is c.if-s-le-SIZES.true)

pub returns-else-s-le-SIZES : goal.returns-else-s-le-SIZES
returns-else-s-le-SIZES c =
    let counters = c.self.inside.counters in
    let e : expanded 1 counters ≡ c.args.self.now.items = ap (λ r. r.items) c.self.view_is in
    rw (← e) (lt-leb c.args.s 32 (omega (arith, c.if-s-le-SIZES.false)) ∙ large_with c.args.s counters (omega (arith, c.if-s-le-SIZES.false)))
