use Rattle.std.proofs.Common.{◌≡◌, ℕ, ◌<◌, ◌≤◌, length, slice_index, List, inl, inr, ⊎_elim, arith, sym, ◌∙◌}
use Rattle.std.proofs.lemmas.List.{get_or_past}
use Rattle.std.proofs.lemmas.Bool.{cases_lt}
use Rattle.items.specs.Multiset.{count, IsMultiset}
use Rattle.items.proofs.SameLemmas.{count_no_size}
use Rattle.packing_witness.proofs.counters.counters_of.Goals as goal

all_counted : (items counters : List ℕ) → length counters ≡ 121 → slice_index counters 0 ≡ 0 → IsMultiset 120 items
    → ((k : ℕ) → 1 ≤ k → k < 121 → slice_index counters k ≡ count k items) → (size : ℕ) → slice_index counters size ≡ count size items
all_counted items counters len zero multiset counted size =
    ⊎_elim
    (λ (low : size < 1). let e : size ≡ 0 = omega arith in rw e (zero ∙ sym (count_no_size 120 0 items multiset.sizes (inl (omega arith)))))
    (λ (some : 1 ≤ size). ⊎_elim
    (λ (within : size < 121). counted size some within)
    (λ (past : 121 ≤ size). get_or_past counters size 0 (omega arith) ∙ sym (count_no_size 120 size items multiset.sizes (inr (omega arith))))
    (cases_lt size 121))
    (cases_lt size 1)

pub returns : goal.returns
returns c =
    let i = c.loop-size.invariant in
    record { value = all_counted c.args.items.now c.loop-size.counters i.0 i.1 (i.2 (omega arith)) (λ k low high. i.3 k low (omega arith)) }
