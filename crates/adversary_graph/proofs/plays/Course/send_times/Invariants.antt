use Rattle.std.proofs.Common.{◌≡◌, ◌++◌, replicate}
use Rattle.adversary_graph.specs.Playing.{IsCourse}
use Rattle.adversary_graph.proofs.plays.Course.send_times.Given as goal

abbrev pub invariant-loop-i : goal.invariant-loop-i
invariant-loop-i g l =
    IsCourse l.game (g.O.Online.answer l.player l.game) l.self × (l.self.items ≡ l.fn.self.items ++ replicate l._i l.size)
