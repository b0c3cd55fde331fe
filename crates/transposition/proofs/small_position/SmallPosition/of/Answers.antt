use Rattle.std.proofs.Common.{arith}
use Rattle.items.proofs.CounterLemmas.{length-counters_of}
use Rattle.transposition.proofs.SmallLemmas.{low-counters, small_from_test, IsSmallPosition-of, counted_position-of}
use Rattle.transposition.proofs.small_position.SmallPosition.of.Goals as goal

pub counter_bytes-requires-clause-enough : goal.counter_bytes-requires-clause-enough
counter_bytes-requires-clause-enough c = rw c.counters.ensures.value (omega (arith, length-counters_of c.args.items.now))

pub counter_bytes-requires-clause-low : goal.counter_bytes-requires-clause-low
counter_bytes-requires-clause-low c =
    let small = small_from_test c.args.items.now c.requires in
    rw c.counters.ensures.value (low-counters 32 255 c.args.items.now c.counters.ensures.multiset small.1 (omega arith))

pub invariant_of-result : goal.invariant_of-result
invariant_of-result c =
    rw (c.counter_bytes.ensures, c.counters.ensures.value, c.load_bytes.ensures, c.as_slice-loads.ensures.value, c.volume.ensures.value)
    (IsSmallPosition-of c.args.loads.now c.args.items.now c.as_slice-loads.ensures.loads c.counters.ensures.multiset c.requires)

pub returns : goal.returns
returns c =
    rw (c.counter_bytes.ensures, c.counters.ensures.value, c.load_bytes.ensures, c.as_slice-loads.ensures.value)
    (counted_position-of c.args.loads.now c.args.items.now c.counters.ensures.multiset c.requires)
