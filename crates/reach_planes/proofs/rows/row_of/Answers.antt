use Rattle.std.proofs.Common.{◌≡◌, ◌<◌, ◌≤◌, ◌-◌, ◌+◌, ◌*◌, ◌∙◌, drop, get_or, length, ap, ℕ, List, arith}
use Rattle.reach_planes.specs.Layout.{row_of}
use Rattle.reach_planes.proofs.RowLemmas.{row_of-more, row_of-bound}
use Rattle.reach_planes.proofs.rows.row_of.Goals as goal
use Rattle.reach_planes.proofs.rows.row_of.Goals.{In-loop-i}

-- the number after one more digit
next : (base i row : ℕ) (digits : List ℕ) → row ≡ row_of base (drop i digits) → 0 < i → i ≤ length digits → row * base + get_or digits (i - 1) 0 ≡ row_of base (drop (i - 1) digits)
next base i row digits e l m =
    let back : i ≡ i - 1 + 1 = omega arith in
    ap (λ n. n * base + get_or digits (i - 1) 0) (e ∙ ap (λ k. row_of base (drop k digits)) back) ∙ row_of-more base (i - 1) digits (omega arith)

whole : (c : In-loop-i) → c.loop-i.row * c.args.base + get_or c.args.digits.now (c.loop-i.i - 1) 0 ≡ row_of c.args.base (drop (c.loop-i.i - 1) c.args.digits.now)
whole c = next c.args.base c.loop-i.i c.loop-i.row c.args.digits.now c.loop-i.invariant c.loop-i-test.true c.loop-i.auto.i

bound : (c : In-loop-i) → row_of c.args.base (drop (c.loop-i.i - 1) c.args.digits.now) < 379749833583241
bound c = row_of-bound c.args.base (c.loop-i.i - 1) c.args.digits.now c.requires.low c.requires.high c.requires.few c.requires.digits

pub overflow_mul-row : goal.overflow_mul-row
overflow_mul-row c = let b = goal.at.overflow_mul-row c in record { fits = omega (arith, whole b.In-loop-i, bound b.In-loop-i) }

pub overflow_add-row : goal.overflow_add-row
overflow_add-row c = let b = goal.at.overflow_add-row c in record { fits = omega (arith, whole b.In-loop-i, bound b.In-loop-i, c.from.ensures) }

pub loop-i-preserved : goal.loop-i-preserved
loop-i-preserved c = let b = goal.at.loop-i-preserved c in ap (λ n. c.loop-i.row * c.args.base + n) c.from.ensures ∙ whole b.In-loop-i
