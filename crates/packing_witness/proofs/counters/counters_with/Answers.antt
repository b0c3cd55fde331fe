use Rattle.std.proofs.Common.{◌≡◌, ◌≢◌, ◌∙◌, ℕ, ◌+◌, ◌*◌, ◌<◌, ◌≤◌, ◌++◌, length, List, get_or, set, replicate, sum, take, refl, ap, ⊎_elim, arith}
use Rattle.std.specs.List.{All}
use Rattle.std.proofs.Math.Nat.{mul-le-mul_left}
use Rattle.std.proofs.lemmas.Bool.{cases_eq, cases_lt}
use Rattle.std.proofs.lemmas.List.{get_or-replicate, get_or_past, get_or-set_same, get_or-set_other, length-set, take_all}
use Rattle.std.proofs.lemmas.List.Elements.{All-get_or}
use Rattle.items.specs.Multiset.{IsSize, count}
use Rattle.items.proofs.CounterLemmas.{count-le-sum, count_replicate_this, count_replicate_other}
use Rattle.items.proofs.MemberLemmas.{count_more, count-take-le, mark_same, mark_other}
use Rattle.items.proofs.MultisetLemmas.{count-append}
use Rattle.packing_witness.proofs.counters.counters_with.Goals as goal

abbrev Counted : List ℕ → List ℕ → Type 0
Counted counters items = (size : ℕ) → get_or counters size 0 ≡ count size items

-- each counter is at most the total
small : (counters items : List ℕ) (i x : ℕ) → Counted counters (take i items) → 1 ≤ x → get_or counters x 0 ≤ sum items
small counters items i x h low = omega (arith, h x, count-take-le x items i, count-le-sum x items low)

counted_more : (counters items : List ℕ) (i : ℕ) → i < length items → get_or items i 0 < length counters → Counted counters (take i items)
    → Counted (set counters (get_or items i 0) (get_or counters (get_or items i 0) 0 + 1)) (take (i + 1) items)
counted_more counters items i l within h size =
    let x : ℕ = get_or items i 0 in
    let v : ℕ = get_or counters (get_or items i 0) 0 + 1 in
    ⊎_elim
    (λ (e : size ≡ x). rw e (omega (arith, h x, count_more x items i l, mark_same x, get_or-set_same counters x v 0 within)))
    (λ (ne : size ≢ x). omega (arith, h size, count_more size items i l, mark_other size x ne, get_or-set_other counters x size v 0 ne))
    (cases_eq size x)

counted_all : (counters items : List ℕ) (i s n : ℕ) → length items ≤ i → s < length counters → Counted counters (take i items)
    → Counted (set counters s (get_or counters s 0 + n)) (items ++ replicate n s)
counted_all counters items i s n l within h size =
    let here : get_or counters size 0 ≡ count size items = h size ∙ ap (count size) (take_all i items l) in
    let v : ℕ = get_or counters s 0 + n in
    ⊎_elim
    (λ (e : size ≡ s).
    let at : get_or counters s 0 ≡ count s items = rw e at here in
    rw e (omega (arith, at, count-append s items (replicate n s), count_replicate_this n s s refl, get_or-set_same counters s v 0 within)))
    (λ (ne : size ≢ s).
    omega (arith, here, count-append size items (replicate n s), count_replicate_other n s size ne, get_or-set_other counters s size v 0 ne))
    (cases_eq size s)

size_at : (items : List ℕ) (i : ℕ) → All (IsSize 120) items → i < length items → IsSize 120 (get_or items i 0)
size_at items i h l = All-get_or (IsSize 120) items i 0 l h

pub loop-item-init : goal.loop-item-init
loop-item-init c = (
  refl,
  λ size. ⊎_elim (λ (l : size < 121). get_or-replicate 121 size 0 0 l) (λ past. get_or_past (replicate 121 0) size 0 past) (cases_lt size 121),
)

pub overflow_add-counters : goal.overflow_add-counters
overflow_add-counters c =
    let i = c.loop-item.item-index in
    let at = size_at c.args.items.now i c.requires.items c.loop-item-test.true in
    omega (arith, small c.loop-item.counters c.args.items.now i (get_or c.args.items.now i 0) c.loop-item.invariant.1 at.low, c.requires.fits)

pub loop-item-preserved : goal.loop-item-preserved
loop-item-preserved c =
    let i = c.loop-item.item-index in
    let at = size_at c.args.items.now i c.requires.items c.loop-item-test.true in (
      length-set c.loop-item.counters (get_or c.args.items.now i 0) (get_or c.loop-item.counters (get_or c.args.items.now i 0) 0 + 1) ∙ c.loop-item.invariant.0,
      counted_more c.loop-item.counters c.args.items.now i c.loop-item-test.true (omega (arith, at.high, c.loop-item.invariant.0)) c.loop-item.invariant.1,
    )

pub overflow_add-counters-2 : goal.overflow_add-counters-2
overflow_add-counters-2 c =
    let few : c.args.n * 1 ≤ c.args.n * c.args.s = mul-le-mul_left c.args.n c.requires.size.low in
    omega (arith, small c.loop-item.counters c.args.items.now c.loop-item.item-index c.args.s c.loop-item.invariant.1 c.requires.size.low, c.requires.fits, few)

pub returns : goal.returns
returns c = record {
  value = counted_all c.loop-item.counters c.args.items.now c.loop-item.item-index c.args.s c.args.n (omega arith)
      (omega (arith, c.requires.size.high, c.loop-item.invariant.0)) c.loop-item.invariant.1;
}
