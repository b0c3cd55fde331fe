use Rattle.std.proofs.Common.{◌≡◌, ◌<◌, ℕ, [], None, take, get_or}
use Rattle.packing_witness.specs.Edits.{first_out}
use Rattle.packing_witness.proofs.packing.Packing.without.Given as goal

abbrev pub invariant-loop-i : goal.invariant-loop-i
invariant-loop-i l =
    (l.made ≡ take l.i l.bins) × ((k : ℕ) → k < l.i → first_out l.item (get_or l.bins k []) ≡ None)
