use Rattle.std.proofs.Common.{◌≡◌, length, take}
use Rattle.transposition.proofs.small_position.counter_bytes.Given as goal

abbrev pub invariant-loop-i : goal.invariant-loop-i
invariant-loop-i l = record { so_far : take l.i l.bytes ≡ take l.i l.counters; number : length l.bytes ≡ 32 }
