use Rattle.std.proofs.Common.{◌≡◌, ◌++◌, ◌+◌, ◌*◌, ℕ, map}
use Rattle.std.specs.List.{range_with_len}
use Rattle.report.specs.Drawing.{HasGiven}
use Rattle.report.specs.Drill.{copy_of_3}
use Rattle.report.proofs.drill.put_copies_of_3.Given as goal

abbrev pub invariant-loop-i : goal.invariant-loop-i
invariant-loop-i l =
    (number : ℕ) → HasGiven number l.copies l.fn.rng
    → HasGiven number (l.copies + 2 * l._i) l.rng × (l.nodes ≡ l.fn.nodes ++ map (copy_of_3 number l.copies) (range_with_len 0 l._i))
