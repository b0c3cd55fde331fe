use Rattle.std.proofs.Common.{arith}
use Rattle.adversary_graph.proofs.RuleLemmas.{game_volume}
use Rattle.minimax.proofs.PlayableLemmas.{total_with}
use Rattle.minimax.proofs.nodes.key_after.Goals as goal

pub after-requires-clause-fits : goal.after-requires-clause-fits
after-requires-clause-fits c =
    omega (arith, total_with c.args.space.now.game c.args.key.now c.args.size c.requires.may_come, game_volume c.args.space.now.game c.game_is_legal.ensures)
