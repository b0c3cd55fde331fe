use Rattle.std.proofs.Common.{rules, ◌≡◌, ◌≢◌, ℕ, ◌+◌, ◌-◌, ◌<◌, length, List, get_or, set, inl, inr, arith, sum, take, ⊎_elim}
use Rattle.std.proofs.lemmas.List.{get_or-set_same, get_or-set_other}
use Rattle.std.proofs.lemmas.List.Sums.{sum_by_more, sum_by-take-le, get_or-le-sum_by}
use Rattle.std.proofs.lemmas.Bool.{cases_eq}
use Rattle.packing_witness.specs.Counters.{CannotTakeOut, AreCountedDown}
use Rattle.items.proofs.MemberLemmas.{count_more, count-take-le, mark_same, mark_other}
use Rattle.packing_witness.proofs.counters.take_bin.Goals as goal
use Rattle.packing_witness.proofs.counters.take_bin.Goals.{then-item-most-via-then-item-most, then-item-most-via-else-item-most+then-left-item-eq0}

too_large : (most : ℕ) (old bin : List ℕ) (i : ℕ) → i < length bin → most < get_or bin i 0 → CannotTakeOut most old bin
too_large most old bin i l h = inl (omega (arith, get_or-le-sum_by (λ x. x) bin i 0 l))

none_left : (most : ℕ) (old left bin : List ℕ) (i : ℕ) → i < length bin → AreCountedDown old left (take i bin) → get_or left (get_or bin i 0) 0 ≡ 0 → CannotTakeOut most old bin
none_left most old left bin i l h z =
    let x : ℕ = get_or bin i 0 in
    inr (x, omega (arith, h x, count_more x bin i l, count-take-le x bin (i + 1), mark_same x))

too_much : (most : ℕ) (old bin : List ℕ) (i total : ℕ) → i < length bin → total ≡ sum (take i bin) → most < total + get_or bin i 0 → CannotTakeOut most old bin
too_much most old bin i total l e h =
    inl (omega (arith, sum_by_more (λ x. x) bin i 0 l, sum_by-take-le (λ x. x) bin (i + 1)))

counted_down : (old left bin : List ℕ) (i : ℕ) → i < length bin → AreCountedDown old left (take i bin) → get_or bin i 0 < length left → get_or left (get_or bin i 0) 0 ≢ 0
    → AreCountedDown old (set left (get_or bin i 0) (get_or left (get_or bin i 0) 0 - 1)) (take (i + 1) bin)
counted_down old left bin i l h within some size =
    let x : ℕ = get_or bin i 0 in
    let v : ℕ = get_or left (get_or bin i 0) 0 - 1 in
    ⊎_elim
    (λ (e : size ≡ x). rw e (omega (arith, h x, count_more x bin i l, mark_same x, get_or-set_same left x v 0 within)))
    (λ (ne : size ≢ x). omega (arith, h size, count_more size bin i l, mark_other size x ne, get_or-set_other left x size v 0 ne))
    (cases_eq size x)

pub returns-then-item-most-clause-refused : goal.returns-then-item-most-clause-refused
returns-then-item-most-clause-refused c =
    elim c.then-item-most.branch [
      | then-item-most-via-then-item-most w ↦ too_large _ _ _ c.loop-item.item-index (omega arith) (omega arith)
      | then-item-most-via-else-item-most+then-left-item-eq0 w ↦ none_left _ _ c.loop-item.left _ c.loop-item.item-index
          (omega arith) c.loop-item.invariant.3 w.if-left-item-eq0.true
    ]

pub returns-then-total-most-clause-refused : goal.returns-then-total-most-clause-refused
returns-then-total-most-clause-refused c =
    too_much _ _ _ c.loop-item.item-index c.loop-item.total (omega arith) c.loop-item.invariant.1 (omega arith)

pub loop-item-preserved : goal.loop-item-preserved
loop-item-preserved c = (
  search rules,
  (omega (arith, sum_by_more (λ x. x) c.args.bin.now c.loop-item.item-index 0 (omega arith))),
  omega arith,
  counted_down _ _ _ c.loop-item.item-index (omega arith) c.loop-item.invariant.3 (omega arith) (λ z. absurd (c.if-left-item-eq0.false z)),
)
