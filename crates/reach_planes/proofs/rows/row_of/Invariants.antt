use Rattle.std.proofs.Common.{◌≡◌, drop}
use Rattle.reach_planes.specs.Layout.{row_of}
use Rattle.reach_planes.proofs.rows.row_of.Given as goal

abbrev pub invariant-loop-i : goal.invariant-loop-i
invariant-loop-i l = l.row ≡ row_of l.base (drop l.i l.digits)
