use Rattle.std.proofs.Common.{◌≡◌, ◌∙◌, ℕ, ◌+◌, ◌<◌, ◌≤◌, length, slice_index, List, ⊎_elim, arith, take, get_or, sum, rules, []}
use Rattle.std.specs.List.{concat, All}
use Rattle.std.proofs.lemmas.List.Elements.{All-more, All-get_or, All-from_get_or}
use Rattle.std.proofs.lemmas.List.{take_all, get_or_read, get_or_past}
use Rattle.std.proofs.lemmas.Bool.{false≢true, cases_lt}
use Rattle.items.specs.Multiset.{count}
use Rattle.packing_witness.specs.Counters.{TakesOut, CannotTakeOut, Empties}
use Rattle.items.proofs.MemberLemmas.{count-concat-more, count-concat-take-le}
use Rattle.packing_witness.proofs.counters.empties.Goals as goal

-- what is left after the first bins
abbrev LeftAfter : List ℕ → List ℕ → List (List ℕ) → ℕ → Type 0
LeftAfter left now bins i = (size : ℕ) → slice_index now size + count size (concat (take i bins)) ≡ slice_index left size

refused : (most : ℕ) (left now : List ℕ) (bins : List (List ℕ)) (i : ℕ) → i < length bins → LeftAfter left now bins i → CannotTakeOut most now (get_or bins i [])
    → Empties most left bins → ⊥
refused most left now bins i l h cannot empties =
    ⊎_elim
    (λ (over : most < sum (get_or bins i [])). absurd (omega (arith, All-get_or (λ bin. sum bin ≤ most) bins i [] l empties.fits)))
    (λ lacks. let x : ℕ = lacks.0 in omega (arith, lacks.1, h x, empties.together x, count-concat-more x bins i [] l, count-concat-take-le x bins (i + 1)))
    cannot

taken : (most : ℕ) (left now new : List ℕ) (bins : List (List ℕ)) (i : ℕ) → i < length bins → LeftAfter left now bins i → TakesOut most now new (get_or bins i [])
    → LeftAfter left new bins (i + 1)
taken most left now new bins i l h t size = omega (arith, h size, t.counted size, count-concat-more size bins i [] l)

all_left_zero : (most : ℕ) (left now : List ℕ) (bins : List (List ℕ)) (i : ℕ) → length bins ≤ i → LeftAfter left now bins i → Empties most left bins → All (λ n. n ≡ 0) now
all_left_zero most left now bins i l h empties =
    All-from_get_or (λ n. n ≡ 0) now 0 (λ k _. let e : take i bins ≡ bins = take_all i bins l in omega (arith, rw e at (h k), empties.together k))

all_taken : (most : ℕ) (left now : List ℕ) (bins : List (List ℕ)) (i : ℕ) → length bins ≤ i → All (λ bin. sum bin ≤ most) (take i bins) → LeftAfter left now bins i
    → All (λ n. n ≡ 0) now → Empties most left bins
all_taken most left now bins i l fits h zero =
    let e : take i bins ≡ bins = take_all i bins l in
    let nothing : (k : ℕ) → slice_index now k ≡ 0 = λ k. ⊎_elim (λ (within : k < length now). All-get_or (λ n. n ≡ 0) now k 0 within zero)
    (λ (past : length now ≤ k). get_or_past now k 0 past) (cases_lt k (length now)) in
    record {
      fits = rw e at fits;
      together = λ size. omega (arith, rw e at (h size), nothing size);
    }

pub returns-then-not-take_bin : goal.returns-then-not-take_bin
returns-then-not-take_bin c =
    let e = c.as_slice.ensures.value ∙ get_or_read c.args.bins.now _ _ (omega arith) c.bin-item.is [] in
    let cannot = rw e at c.if-not-take_bin.ensures.refused in
    record { exact = (λ yes. absurd (false≢true yes), λ empties. absurd (refused _ _ _ _ c.loop-bin.bin-index (omega arith) c.loop-bin.invariant.2 cannot empties)) }

pub loop-bin-preserved : goal.loop-bin-preserved
loop-bin-preserved c =
    let e = c.as_slice.ensures.value ∙ get_or_read c.args.bins.now _ _ (omega arith) c.bin-item.is [] in
    let t = rw e at c.if-not-take_bin.ensures.taken in (
      search rules,
      All-more (λ bin. sum bin ≤ c.args.most) c.args.bins.now c.loop-bin.bin-index [] (omega arith) c.loop-bin.invariant.1 t.fits,
      taken c.args.most c.args.left.now c.loop-bin.left _ c.args.bins.now c.loop-bin.bin-index (omega arith) c.loop-bin.invariant.2 t,
    )

pub returns : goal.returns
returns c =
    let i = c.loop-bin.invariant in
    record {
      exact = (
        λ yes. all_taken _ _ _ _ c.loop-bin.bin-index (omega arith) i.1 i.2 (c.all_zero.ensures.0 yes),
        λ empties. c.all_zero.ensures.1 (all_left_zero _ _ _ _ c.loop-bin.bin-index (omega arith) i.2 empties),
      );
    }
