use Rattle.std.proofs.Common.{◌≡◌, ◌∙◌, ℕ, List, [], ◌∷◌, sum, refl, arith}
use Rattle.std.specs.List.{All}
use Rattle.std.proofs.lemmas.Bool.{eqb-true, eq-eqb}
use Rattle.std.proofs.lemmas.List.Elements.{All-from_get_or, All-head, All-tail}
use Rattle.std.proofs.lemmas.List.Sums.{get_or-le-sum_by, sum_by-cons}
use Rattle.packing_witness.proofs.counters.all_zero.Goals as goal

zero_sum : (xs : List ℕ) → All (λ n. n ≡ 0) xs → sum xs ≡ 0
zero_sum [] h = refl
zero_sum (x ∷ xs) h = omega (arith, sum_by-cons (λ n. n) x xs, All-head (λ n. n ≡ 0) x xs h, zero_sum xs (All-tail (λ n. n ≡ 0) x xs h))

pub returns : goal.returns
returns c =
    let xs = c.args.counters.now in (
      λ t. All-from_get_or (λ n. n ≡ 0) xs 0 (λ k l. omega (arith, eqb-true c.total.result 0 t, c.total.ensures, get_or-le-sum_by (λ n. n) xs k 0 l)),
      λ all. eq-eqb c.total.result 0 (c.total.ensures ∙ zero_sum xs all),
    )
