use Rattle.std.proofs.Common.{sym}
use Rattle.adversary_graph.proofs.EndLemmas.{without_more}
use Rattle.adversary_graph.proofs.plays.without_times.Goals as goal

pub loop-i-preserved : goal.loop-i-preserved
loop-i-preserved c = rw (c.in_ok-packing.ensures, c.loop-i.invariant) (sym (without_more c.loop-i._i c.args.size c.args.bins))
