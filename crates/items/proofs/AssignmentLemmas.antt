-- The assignment of no items, a bin's total with one more item, and sums over a game's bins.
use Rattle.std.proofs.Common.{◌≡◌, ℕ, zero, suc, ◌+◌, ◌<◌, ◌≤◌, cond, eqb, List, [], ◌∷◌, ◌++◌, length, refl, inl, inr, arith}
use Rattle.std.specs.List.{range_with_len, sum_by}
use Rattle.std.proofs.lemmas.Bool.{cases_eq, eq-eqb, ne_eqb, cond-true, cond-false}
use Rattle.std.proofs.lemmas.List.Sums.{sum_by-cons}
use Rattle.std.proofs.lemmas.List.Elements.{All-nil}
use Rattle.items.specs.Game.{GameNumbers}
use Rattle.items.specs.Multiset.{IsSize}
use Rattle.items.specs.Packable.{IsAssignment, bin_total}

-- no items have the one assignment with no bins
pub IsAssignment-nil : (game : GameNumbers) → IsAssignment game [] []
IsAssignment-nil game = record {
  item_list = All-nil (IsSize game.capacity);
  one_each = refl;
  of_game = All-nil (λ bin. bin < game.bins);
  fits = λ bin within. omega arith;
}

-- one more item adds to the bin that it went to
pub bin_total-push : (bin size to : ℕ) (items bins : List ℕ) → length bins ≡ length items
    → bin_total bin (items ++ size ∷ []) (bins ++ to ∷ []) ≡ bin_total bin items bins + cond (eqb bin to) size 0
bin_total-push bin size to [] [] e = omega arith
bin_total-push bin size to [] (b ∷ bins) e = absurd (omega arith)
bin_total-push bin size to (i ∷ items) [] e = absurd (omega arith)
bin_total-push bin size to (i ∷ items) (b ∷ bins) e = omega (arith, bin_total-push bin size to items bins (omega arith))

-- a sum over bins in which one of them has more
sum-mark_before : (c v : ℕ) (h : ℕ → ℕ) (low n : ℕ) → c < low → sum_by (λ b. cond (eqb b c) v 0 + h b) (range_with_len low n) ≡ sum_by h (range_with_len low n)
sum-mark_before c v h low zero l = refl
sum-mark_before c v h low (suc n) l =
    let f : ℕ → ℕ = λ b. cond (eqb b c) v 0 + h b in
    omega (
      arith,
      sum_by-cons f low (range_with_len (low + 1) n),
      sum_by-cons h low (range_with_len (low + 1) n),
      sum-mark_before c v h (low + 1) n (omega arith),
      cond-false (eqb low c) v 0 (ne_eqb low c (λ e. omega arith)),
    )

pub sum-mark : (c v : ℕ) (h : ℕ → ℕ) (low n : ℕ) → low ≤ c → c < low + n
    → sum_by (λ b. cond (eqb b c) v 0 + h b) (range_with_len low n) ≡ v + sum_by h (range_with_len low n)
sum-mark c v h low zero l m = absurd (omega arith)
sum-mark c v h low (suc n) l m =
    let f : ℕ → ℕ = λ b. cond (eqb b c) v 0 + h b in
    elim (cases_eq low c) [
      | inl e ↦ omega (
        arith,
        sum_by-cons f low (range_with_len (low + 1) n),
        sum_by-cons h low (range_with_len (low + 1) n),
        sum-mark_before c v h (low + 1) n (omega arith),
        cond-true (eqb low c) v 0 (eq-eqb low c e),
      )
      | inr q ↦ omega (
        arith,
        sum_by-cons f low (range_with_len (low + 1) n),
        sum_by-cons h low (range_with_len (low + 1) n),
        sum-mark c v h (low + 1) n (omega arith) (omega arith),
        cond-false (eqb low c) v 0 (ne_eqb low c q),
      )
    ]

pub sum_none : (low n : ℕ) → sum_by (λ (b : ℕ). 0) (range_with_len low n) ≡ 0
sum_none low zero = refl
sum_none low (suc n) = omega (arith, sum_by-cons (λ (b : ℕ). 0) low (range_with_len (low + 1) n), sum_none (low + 1) n)
