use Rattle.adversary_graph.proofs.PlayLemmas.{times_packable}
use Rattle.adversary_graph.proofs.plays.Course.send_times.Goals as goal

pub send-requires-clause-packable : goal.send-requires-clause-packable
send-requires-clause-packable g c =
    rw c.loop-i.invariant.1 (times_packable c.args.game.now c.args.self.now.items c.loop-i._i c.args.times c.args.size c.loop-i-test.true c.requires.packable)
