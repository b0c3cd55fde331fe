use Rattle.std.proofs.Common.{arith}
use Rattle.algorithm_graph.proofs.RuleLemmas.{loads_total_after}
use Rattle.algorithm_graph.proofs.rules.leads_to_child.Goals as goal

pub is_after-requires-clause-fits : goal.is_after-requires-clause-fits
is_after-requires-clause-fits g c =
    let entry = c.args.entry.now in
    let most = loads_total_after c.args.game.now c.args.loads.now entry.load entry.size c.game_is_legal.ensures c.requires.loads c.requires.named.load c.requires.named.below in
    omega (arith, most, c.requires.total)

pub is_after-requires-clause-below : goal.is_after-requires-clause-below
is_after-requires-clause-below g c =
    omega (arith, c.requires.named.below, c.game_is_legal.ensures.target.high, c.game_is_legal.ensures.capacity.high)
