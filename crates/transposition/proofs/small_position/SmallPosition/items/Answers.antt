use Rattle.std.proofs.Common.{◌≡◌, ◌<◌, ap, sym, ◌∙◌, length, arith}
use Rattle.items.specs.Counters.{expanded}
use Rattle.transposition.proofs.SmallLemmas.{put_next}
use Rattle.transposition.proofs.small_position.SmallPosition.items.Goals as goal

pub loop-i-preserved : goal.loop-i-preserved
loop-i-preserved c =
    let counters = c.self.inside.counters in
    let told = c.self.told in
    let e : expanded 1 counters ≡ c.args.self.now.items = ap (λ r. r.items) c.self.view_is in
    let within : c.loop-i.i < length counters = omega arith in
    let next = put_next c.loop-i.i counters c.loop-i.items within (c.loop-i.invariant ∙ sym e) in
    rw (c.put_times.ensures) (next.put ∙ e)
