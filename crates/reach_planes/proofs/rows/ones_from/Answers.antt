use Rattle.std.proofs.Common.{◌∙◌, ap, sym, arith}
use Rattle.std.specs.Int.{bit_at}
use Rattle.std.proofs.lemmas.Nat.Bits.{ones_shl}
use Rattle.reach_planes.proofs.BitLemmas.{set_from}
use Rattle.reach_planes.proofs.rows.ones_from.Goals as goal

pub returns-then-bit-lt64 : goal.returns-then-bit-lt64
returns-then-bit-lt64 c i l =
    let e = ap (λ n. bit_at n i) (ones_shl 64 c.args.bit (omega (arith, c.if-bit-lt64.true))) in
    let h = set_from c.args.bit i l in
    (λ x. h.0 (sym e ∙ x), λ x. e ∙ h.1 x)
