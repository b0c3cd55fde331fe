use Rattle.std.proofs.Common.{arith, rules}
use Rattle.monotone.specs.Paths.{moved}
use Rattle.monotone.proofs.OrderLemmas.{decided_at_end, decided_past_end, decided_at_moves, decided_from_next, same_from_ne, apart_from_ne}
use Rattle.monotone.proofs.path.Path.before.Goals as goal

pub returns : goal.returns
returns c =
    let e = decided_at_end c.loop-i.i c.as_slice-mine.result.now c.as_slice-others.result.now c.loop-i-test.false c.loop-i.auto.i-end c.loop-i.invariant.1 in
    rw (← c.as_slice-mine.ensures.value, ← c.as_slice-others.ensures.value) record { order = (λ h. e.1 (search rules), λ h. let l = e.0 h in search rules) }

pub returns-then-i-others : goal.returns-then-i-others
returns-then-i-others c =
    let no = decided_past_end c.loop-i.i c.as_slice-mine.result.now c.as_slice-others.result.now c.if-i-others.true c.loop-i.invariant.1 in
    rw (← c.as_slice-mine.ensures.value, ← c.as_slice-others.ensures.value) record { order = (λ h. cc, λ h. absurd (no h)) }

pub returns-then-ne : goal.returns-then-ne
returns-then-ne c =
    let e = decided_at_moves c.loop-i.i c.as_slice-mine.result.now c.as_slice-others.result.now (moved 0 0) c.loop-i-test.true (omega arith)
    (apart_from_ne _ _ c.ne.result c.ne.ensures c.if-ne.true) c.loop-i.invariant.1 in
    rw (← c.as_slice-mine.ensures.value, ← c.as_slice-others.ensures.value) record { order = (λ h. e.1 (c.before-then-ne.ensures.0 h), λ h. c.before-then-ne.ensures.1 (e.0 h)) }

pub loop-i-preserved : goal.loop-i-preserved
loop-i-preserved c = (
  omega arith,
  decided_from_next c.loop-i.i c.as_slice-mine.result.now c.as_slice-others.result.now (moved 0 0) c.loop-i-test.true (omega arith)
      (same_from_ne _ _ c.ne.result c.ne.ensures c.if-ne.false) c.loop-i.invariant.1,
)
