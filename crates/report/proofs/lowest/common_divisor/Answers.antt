use Rattle.std.proofs.Common.{arith}
use Rattle.std.proofs.lemmas.Nat.Gcd.{IsGcd-from_mod, IsGcd-from_zero}
use Rattle.report.proofs.lowest.common_divisor.Goals as goal

pub loop-lesser-preserved : goal.loop-lesser-preserved
loop-lesser-preserved c =
    let l = c.loop-lesser in
    (λ d h. l.invariant.0 d (IsGcd-from_mod l.greater l.lesser d h), omega (arith, c.loop-lesser-test.true))

pub returns-clause-divisor : goal.returns-clause-divisor
returns-clause-divisor c =
    let l = c.loop-lesser in
    l.invariant.0 l.greater (IsGcd-from_zero l.greater l.lesser (omega (arith, c.loop-lesser-test.false)))
