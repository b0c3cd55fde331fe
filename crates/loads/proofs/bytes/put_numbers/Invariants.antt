use Rattle.std.proofs.Common.{◌≡◌, ◌+◌, ◌++◌, take}
use Rattle.std.specs.Vec.{vec_len, vec_capacity}
use Rattle.loads.proofs.bytes.put_numbers.Given as goal

abbrev pub invariant-loop-number : goal.invariant-loop-number
invariant-loop-number l = record {
  so_far : l.bytes.items ≡ l.initial.bytes.items ++ take l.number-index l.numbers;
  len : vec_len l.bytes ≡ vec_len l.initial.bytes + l.number-index;
  capacity : vec_capacity l.bytes ≡ vec_capacity l.initial.bytes;
}
