use Rattle.std.proofs.Common.{◌≡◌, ◌≤◌, ◌*◌, ◌/◌, ◌%◌, ◌∙◌, ℕ, ap, length, arith}
use Rattle.std.proofs.Math.Nat.{mul-le-mul_right, div-add-mod}
use Rattle.reach_planes.proofs.PassLemmas.{ArePutUpTo-more, IsPutInBin-all}
use Rattle.reach_planes.proofs.rows.put_in_bin.Goals as goal

pub loop-i-preserved : goal.loop-i-preserved
loop-i-preserved c =
    ArePutUpTo-more c.loop-i.i (c.args.base * c.args.stride) (c.args.s * c.args.stride) c.args.source.now c.args.words.now c.loop-i.words c.join.new.words
    (mul-le-mul_right c.args.stride (omega (arith, c.requires.digit))) c.loop-i.invariant c.join.ensures

-- as many blocks as the words have
whole : (i width n : ℕ) → n / width ≤ i → i ≤ n / width → n % width ≡ 0 → i * width ≡ n
whole i width n a b z =
    let e : i ≡ n / width = omega arith in
    ap (λ k. k * width) e ∙ omega (arith, div-add-mod n width, z)

pub returns : goal.returns
returns c =
    IsPutInBin-all c.args.stride c.args.base c.args.s c.loop-i.i c.args.source.now c.args.words.now c.loop-i.words
    (whole c.loop-i.i (c.args.base * c.args.stride) (length c.args.words.now) c.loop-i-test.false c.loop-i.auto.i-end c.requires.whole) c.loop-i.invariant
