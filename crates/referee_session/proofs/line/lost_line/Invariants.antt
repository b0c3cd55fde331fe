use Rattle.std.proofs.Common.{◌≡◌, ◌+◌, ◌*◌, ◌≤◌, ◌++◌, codes, decimal, length, map, take}
use Rattle.strategy_text.specs.Writing.{spaced}
use Rattle.referee_session.proofs.line.lost_line.Given as goal

abbrev pub invariant-loop-load : goal.invariant-loop-load
invariant-loop-load l = record {
  text : l.line ≡ codes "lost loads" ++ spaced (map decimal (take l.load-index l.loads));
  short : length l.line ≤ 10 + 6 * l.load-index;
}
