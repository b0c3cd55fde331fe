use Rattle.std.proofs.Common.{◌≡◌, ◌≤◌, length, sum, take}
use Rattle.online_play.specs.Replays.{loads_under, rule_of}
use Rattle.online_play.proofs.rule.replay.Given as goal

abbrev pub invariant-loop-i : goal.invariant-loop-i
invariant-loop-i l = record {
  replayed : l.actual ≡ loads_under (rule_of l.rule) l.game (take l.i l.history);
  one_each : length l.actual ≡ l.game.bins;
  total : sum l.actual ≤ sum (take l.i l.history);
}
