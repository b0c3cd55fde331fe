use Rattle.std.proofs.Common.{◌≡◌, take}
use Rattle.strategy_transfer.specs.Scaled.{times}
use Rattle.strategy_transfer.proofs.scaled.times.Given as goal

abbrev pub invariant-loop-number : goal.invariant-loop-number
invariant-loop-number l = l.made ≡ times l.c (take l.number-index l.list)
