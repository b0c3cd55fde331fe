use Rattle.std.proofs.Common.{arith}
use Rattle.adversary_graph.proofs.RuleLemmas.{game_volume}
use Rattle.packing_witness.proofs.PackingLemmas.{size_of_last}
use Rattle.minimax.proofs.PlayableLemmas.{total_with}
use Rattle.minimax.proofs.nodes.after.Goals as goal

pub add-requires-clause-high : goal.add-requires-clause-high
add-requires-clause-high c =
    let s = size_of_last c.args.space.now.game c.args.position.now.items c.args.size c.requires.may_come in
    omega (arith, s.high, c.game_is_legal.ensures.capacity.high)

pub add-requires-clause-fits : goal.add-requires-clause-fits
add-requires-clause-fits c =
    omega (arith, total_with c.args.space.now.game c.args.position.now c.args.size c.requires.may_come, game_volume c.args.space.now.game c.game_is_legal.ensures)
