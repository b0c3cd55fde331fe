use Rattle.std.proofs.Common.{◌≡◌, ◌++◌, ℕ, map}
use Rattle.std.specs.List.{range_with_len}
use Rattle.report.specs.Drawing.{HasGiven}
use Rattle.report.specs.Drill.{copy_of_1}
use Rattle.report.proofs.drill.put_copies_of_1.Given as goal

abbrev pub invariant-loop-i : goal.invariant-loop-i
invariant-loop-i l =
    (number : ℕ) → HasGiven number 0 l.fn.rng
    → HasGiven number l._i l.rng × (l.nodes ≡ l.fn.nodes ++ map (copy_of_1 number l.copies) (range_with_len 0 l._i))
