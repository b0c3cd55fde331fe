use Rattle.std.proofs.Common.{◌≡◌, take}
use Rattle.online_play.specs.Algorithm.{bins_of}
use Rattle.match_player.proofs.answers.bins_of.Given as goal

abbrev pub invariant-loop-i : goal.invariant-loop-i
invariant-loop-i g l = l.bins ≡ bins_of (g.O.Online.answer l.player l.game) (take l.i l.items)
