-- A fraction without the greatest common divisor of its terms is in lowest terms.
use Rattle.std.proofs.Common.{◌≡◌, ℕ, ◌*◌, ◌/◌, ◌≤◌, ◌∙◌, ap, sym, subst, mul_assoc, mul_comm, mul-one}
use Rattle.std.proofs.Math.Nat.{one-dvd, mul-dvd-mul_left, dvd_of_mul-dvd-mul_left, mul-div_cancel'}
use Prim.Native.Nat.{◌∣◌}
use Rattle.std.specs.Int.{IsGcd}
use Rattle.report.specs.Report.{IsInLowestTerms}

pub lowest_from_gcd : (a b d : ℕ) → 1 ≤ d → IsGcd a b d → IsInLowestTerms a b (a / d) (b / d)
lowest_from_gcd a b d some g =
    let p = a / d in
    let q = b / d in
    let a_is : d * p ≡ a = mul-div_cancel' d g.0 in
    let b_is : d * q ≡ b = mul-div_cancel' d g.1 in
    record {
      equal = ap (λ n. p * n) (sym b_is) ∙ sym (mul_assoc p d q) ∙ ap (λ n. n * q) (mul_comm p d ∙ a_is);
      lowest = (
        one-dvd p,
        one-dvd q,
        λ k in_p in_q. dvd_of_mul-dvd-mul_left k some (subst (λ n. d * k ∣ n) (sym (mul-one d)) (g.2 (d * k)
            (subst (λ n. d * k ∣ n) a_is (mul-dvd-mul_left k d in_p))
            (subst (λ n. d * k ∣ n) b_is (mul-dvd-mul_left k d in_q)))),
      );
    }
