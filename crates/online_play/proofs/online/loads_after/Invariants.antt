use Rattle.std.proofs.Common.{◌≡◌, take}
use Rattle.online_play.specs.Algorithm.{run}
use Rattle.online_play.proofs.online.loads_after.Given as goal

abbrev pub invariant-loop-i : goal.invariant-loop-i
invariant-loop-i g l = l.actual ≡ run l.game (g.O.Online.answer l.player l.game) (take l.i l.history)
