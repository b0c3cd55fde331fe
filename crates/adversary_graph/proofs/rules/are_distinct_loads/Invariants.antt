use Rattle.std.proofs.Common.{◌≡◌, length, take, map}
use Rattle.loads.specs.Descending.{distinct}
use Rattle.adversary_graph.proofs.rules.are_distinct_loads.Given as goal

abbrev pub invariant-loop-i : goal.invariant-loop-i
invariant-loop-i l =
    (length l.placements ≡ length (distinct l.loads)) × (map (λ placement. placement.load) (take l.i l.placements) ≡ take l.i (distinct l.loads))
