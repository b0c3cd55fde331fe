-- The items of each bin, and the packing that they make.
use Rattle.std.proofs.Common.{◌≡◌, ℕ, ◌+◌, ◌<◌, ◌≤◌, cond, eqb, List, [], ◌∷◌, length, map, sum, refl, ap, ◌∙◌, arith, inl, inr}
use Rattle.std.specs.Prelude.{All}
use Rattle.std.specs.List.{range_with_len, sum_by, concat}
use Rattle.std.proofs.lemmas.Bool.{cases_Bool}
use Rattle.std.proofs.lemmas.List.Sums.{sum_by-cons}
use Rattle.std.proofs.lemmas.List.Recursion.{is_sum_by}
use Rattle.std.proofs.lemmas.List.FromFn.{length-map-range_with_len, get_or-map-range_with_len}
use Rattle.std.proofs.lemmas.List.Elements.{All-from_get_or, All-head, All-tail}
use Rattle.items.specs.Game.{GameNumbers}
use Rattle.items.specs.Multiset.{count}
use Rattle.items.specs.Packable.{IsAssignment, IsPacking, bin_total}
use Rattle.items.proofs.AssignmentLemmas.{sum-mark, sum_none}
use Rattle.items.proofs.MultisetLemmas.{count-append}
use Rattle.packing_witness.specs.Contents.{items_in, contents_of}

-- the items of a bin sum to its total
pub sum-items_in : (bin : ℕ) (items bins : List ℕ) → sum (items_in bin items bins) ≡ bin_total bin items bins
sum-items_in bin [] bins = refl
sum-items_in bin (item ∷ items) [] = refl
sum-items_in bin (item ∷ items) (b ∷ bins) = elim (cases_Bool (eqb bin b)) [
  | inl e ↦ rw e (omega (arith, sum_by-cons (λ x. x) item (items_in bin items bins), sum-items_in bin items bins))
  | inr e ↦ rw e (omega (arith, sum-items_in bin items bins))
]

-- an item counts in its bin alone
count-items_in : (x bin item b : ℕ) (items bins : List ℕ)
    → count x (items_in bin (item ∷ items) (b ∷ bins)) ≡ cond (eqb bin b) (cond (eqb x item) 1 0) 0 + count x (items_in bin items bins)
count-items_in x bin item b items bins = elim (cases_Bool (eqb bin b)) [
  | inl e ↦ rw e refl
  | inr e ↦ rw e (omega arith)
]

-- each item counts once over all bins
counted : (x n : ℕ) (items bins : List ℕ) → length bins ≡ length items → All (λ bin. bin < n) bins
    → sum_by (λ b. count x (items_in b items bins)) (range_with_len 0 n) ≡ count x items
counted x n [] bins e a = sum_none 0 n
counted x n (item ∷ items) [] e a = absurd (omega arith)
counted x n (item ∷ items) (c ∷ bins) e a =
    ap (λ f. sum_by f (range_with_len 0 n)) (λ i b. count-items_in x b item c items bins i)
    ∙ sum-mark c (cond (eqb x item) 1 0) (λ b. count x (items_in b items bins)) 0 n (omega arith) (let h = All-head (λ bin. bin < n) c bins a in omega (arith, h))
    ∙ ap {B = ℕ} (λ k. cond (eqb x item) 1 0 + k) (counted x n items bins (omega arith) (All-tail (λ bin. bin < n) c bins a))

-- the count in lists that are joined
count-joined : (x : ℕ) (f : ℕ → List ℕ) (bs : List ℕ) → count x (concat (map f bs)) ≡ sum_by (λ b. count x (f b)) bs
count-joined x f = is_sum_by (λ bs. count x (concat (map f bs))) (λ b. count x (f b)) refl (λ b bs. count-append x (f b) (concat (map f bs)))

-- an assignment gives a packing
pub IsPacking-contents : (game : GameNumbers) (items bins : List ℕ) → IsAssignment game items bins → IsPacking game (contents_of items bins game.bins) items
IsPacking-contents game items bins a =
    let n = length-map-range_with_len (λ bin. items_in bin items bins) 0 game.bins in
    record {
      one_each = n;
      fits = All-from_get_or (λ bin. sum bin ≤ game.capacity) (contents_of items bins game.bins) [] (λ k l.
          let within : k < game.bins = omega (arith, l, n) in
          let at = get_or-map-range_with_len (λ bin. items_in bin items bins) 0 game.bins k k [] within (omega arith) in
          omega (arith, ap sum at, sum-items_in k items bins, a.fits k within));
      together = λ x. count-joined x (λ bin. items_in bin items bins) (range_with_len 0 game.bins) ∙ counted x game.bins items bins a.one_each a.of_game;
    }
