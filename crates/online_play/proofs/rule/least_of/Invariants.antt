use Rattle.std.proofs.Common.{◌≡◌, get_or, min, take}
use Rattle.std.specs.Prelude.{fold}
use Rattle.online_play.proofs.rule.least_of.Given as goal

abbrev pub invariant-loop-load : goal.invariant-loop-load
invariant-loop-load l = l.least ≡ fold min (get_or l.loads 0 0) (take l.load-index l.loads)
