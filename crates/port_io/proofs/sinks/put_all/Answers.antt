use Rattle.std.proofs.Common.{arith, ◌-◌, drop, length, length-take, length-drop}
use Rattle.port_io.proofs.ToldLemmas.{append_known-more}
use Rattle.port_io.proofs.sinks.put_all.Goals as goal

pub loop-done-preserved : goal.loop-done-preserved
loop-done-preserved g c =
    let piece = c.args.piece.now in
    let done = c.loop-done.done in
    record {
      within = omega (arith, c.in_ok-done.ensures.bound, length-take (length piece - done) (drop done piece), length-drop done piece);
      count = omega (arith, c.loop-done.invariant.count, c.write.ensures.count);
      written = append_known-more _ _ _ piece done _ c.loop-done.invariant.written c.in_ok-done.ensures.taken;
    }
