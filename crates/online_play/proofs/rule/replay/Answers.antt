use Rattle.std.proofs.Common.{arith, get_or}
use Rattle.online_play.proofs.RuleLemmas.{replay_fits, named_in_range}
use Rattle.online_play.proofs.rule.replay.Goals as goal

pub put-requires-clause-in_range : goal.put-requires-clause-in_range
put-requires-clause-in_range c =
    let bins = c.zero-actual.ensures.legal.bins.low in
    named_in_range c.args.rule c.t-target.result (get_or c.args.history.now c.loop-i.i 0) c.choose-bin.result c.as_slice.result.now c.loop-i.actual
    c.as_slice.ensures.value (omega (arith, bins, c.loop-i.invariant.one_each)) c.choose-bin.ensures

pub put-requires-clause-fits : goal.put-requires-clause-fits
put-requires-clause-fits c =
    replay_fits c.args.game.now c.args.history.now c.loop-i.actual c.loop-i.i c.choose-bin.result c.zero-actual.ensures.legal c.requires.packable
    (omega (arith, c.loop-i-test.true)) c.loop-i.invariant.total (put-requires-clause-in_range c)
