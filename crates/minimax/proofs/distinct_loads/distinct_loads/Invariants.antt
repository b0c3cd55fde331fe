use Rattle.std.proofs.Common.{◌≡◌, length, take}
use Rattle.loads.specs.Descending.{distinct}
use Rattle.minimax.proofs.distinct_loads.distinct_loads.Given as goal

abbrev pub invariant-loop-i : goal.invariant-loop-i
invariant-loop-i l = record {
  so_far : take l.i l.found ≡ take l.i (distinct l.loads);
  number : length l.found ≡ 8;
}
