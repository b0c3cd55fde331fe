use Rattle.std.proofs.Common.{◌≡◌, ◌+◌, ◌<◌, ◌++◌, ◌∙◌, sym, ap, arith, replicate, drop, get_or}
use Rattle.items.specs.Counters.{expanded, counters_of}
use Rattle.items.proofs.MultisetLemmas.{largest_of-le}
use Rattle.items.proofs.CounterLemmas.{expanded-counters_of, expanded-past, expanded-drop, get_or-counters_of, length-counters_of}
use Rattle.std.proofs.lemmas.List.{append-nil}
use Rattle.loads.proofs.bytes.push_items.Goals as goal

pub loop-i-init : goal.loop-i-init
loop-i-init c = ap (λ xs. c.args.bytes.now.items ++ xs) (expanded-counters_of c.args.items.now c.largest-i-end.ensures.multiset)

pub overflow_cast-i : goal.overflow_cast-i
overflow_cast-i c = omega (arith, c.largest-i-end.ensures.value, largest_of-le 120 c.args.items.now c.largest-i-end.ensures.multiset.sizes)

pub overflow_add-i : goal.overflow_add-i
overflow_add-i c = omega (arith, c.largest-i-end.ensures.value, largest_of-le 120 c.args.items.now c.largest-i-end.ensures.multiset.sizes)

pub loop-i-preserved : goal.loop-i-preserved
loop-i-preserved c =
    let i = c.loop-i.i in
    let counters = counters_of c.args.items.now in
    let within : i < 120 = omega (arith, c.largest-i-end.ensures.value, largest_of-le 120 c.args.items.now c.largest-i-end.ensures.multiset.sizes) in
    let n : c.count_of.result ≡ get_or counters i 0 = c.count_of.ensures.value ∙ sym (get_or-counters_of c.args.items.now i within) in
    ap (λ xs. xs ++ expanded (i + 1 + 1) (drop (i + 1) counters)) (c.in_ok-push_times.ensures ∙ ap (λ k. c.loop-i.bytes.items ++ replicate k (i + 1)) n)
    ∙ sym (expanded-drop i counters c.loop-i.bytes.items (omega (arith, length-counters_of c.args.items.now))) ∙ c.loop-i.invariant

pub returns : goal.returns
returns c =
    let none = expanded-past c.loop-i.i c.args.items.now c.largest-i-end.ensures.multiset (omega (arith, c.largest-i-end.ensures.value)) in
    sym (append-nil c.loop-i.bytes.items) ∙ ap (λ xs. c.loop-i.bytes.items ++ xs) (sym none) ∙ c.loop-i.invariant
