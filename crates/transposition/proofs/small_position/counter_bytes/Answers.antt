use Rattle.std.proofs.Common.{◌≡◌, ◌<◌, take, subst, sym, ◌∙◌, arith}
use Rattle.std.proofs.lemmas.List.{get_or-take, length-take-le, take_all}
use Rattle.std.proofs.lemmas.List.Elements.{All-get_or}
use Rattle.transposition.proofs.small_position.counter_bytes.Goals as goal

pub overflow_cast-bytes : goal.overflow_cast-bytes
overflow_cast-bytes c =
    let counters = c.args.counters.now in
    let front = take 32 counters in
    let e = get_or-take 32 counters c.loop-i.i 0 c.loop-i-test.true in
    let low = All-get_or (λ n. n < 256) front c.loop-i.i 0 (omega (arith, length-take-le 32 counters c.requires.enough)) c.requires.low in
    omega (arith, e, low)

pub returns : goal.returns
returns c =
    let end : c.loop-i.i ≡ 32 = omega arith in
    sym (take_all 32 c.loop-i.bytes (omega arith)) ∙ subst (λ i. take i c.loop-i.bytes ≡ take i c.args.counters.now) end c.loop-i.invariant.so_far
