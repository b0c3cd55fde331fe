use Rattle.std.proofs.Common.{◌∙◌, ◌+◌, ◌-◌, ap, sym, arith}
use Rattle.std.specs.Int.{bit_at}
use Rattle.std.proofs.lemmas.Nat.{one_shl}
use Rattle.reach_planes.proofs.BitLemmas.{set_up_to}
use Rattle.reach_planes.proofs.rows.ones_up_to.Goals as goal

pub returns-then-bit-lt63 : goal.returns-then-bit-lt63
returns-then-bit-lt63 c i l =
    let e = ap (λ n. bit_at (n - 1) i) (one_shl (c.args.bit + 1) 64 (omega (arith, c.if-bit-lt63.true))) in
    let h = set_up_to (c.args.bit + 1) i in
    (λ x. let below = h.0 (sym e ∙ x) in omega (arith, below), λ x. e ∙ h.1 (omega (arith, x)))

pub returns-else-bit-lt63 : goal.returns-else-bit-lt63
returns-else-bit-lt63 c i l = (λ x. omega (arith, l, c.if-bit-lt63.false), λ x. (set_up_to 64 i).1 l)
