use Rattle.std.proofs.Common.{◌≡◌, ◌≤◌, length, sum, take}
use Rattle.packing_witness.specs.Counters.{AreCountedDown}
use Rattle.packing_witness.proofs.counters.take_bin.Given as goal

abbrev pub invariant-loop-item : goal.invariant-loop-item
invariant-loop-item l =
    (length l.left ≡ 121) × (l.total ≡ sum (take l.item-index l.bin)) × (l.total ≤ l.most) × AreCountedDown l.fn.left l.left (take l.item-index l.bin)
