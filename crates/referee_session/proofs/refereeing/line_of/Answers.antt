use Rattle.std.proofs.Common.{arith}
use Rattle.referee_session.proofs.refereeing.line_of.Goals as goal

pub lost_line-requires-clause-some : goal.lost_line-requires-clause-some
lost_line-requires-clause-some c = omega (arith, c.loads.ensures.of_bins, c.session_is_legal.ensures.of_pool.of_game.bins.low)

pub lost_line-requires-clause-few : goal.lost_line-requires-clause-few
lost_line-requires-clause-few c = omega (arith, c.loads.ensures.of_bins, c.session_is_legal.ensures.of_pool.of_game.bins.high)
