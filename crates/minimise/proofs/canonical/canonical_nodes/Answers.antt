use Rattle.std.proofs.Common.{subst}
use Rattle.items.specs.Multiset.{sizes_of}
use Rattle.strategies.specs.AnyNode.{AreLegalNodes}
use Rattle.minimise.proofs.StrategyLemmas.{adversary_leads_back, adversary_positions, algorithm_leads_back, algorithm_positions}
use Rattle.minimise.proofs.canonical.canonical_nodes.Goals as goal

pub canonical-requires-clause-of_game : goal.canonical-requires-clause-of_game
canonical-requires-clause-of_game c =
    let s = c.args.strategy.now in
    adversary_positions s.format s.game c.in-Adversary.nodes (subst (AreLegalNodes s.format s.game (sizes_of s.game)) c.in-Adversary.is c.requires.legal)

pub canonical-requires-clause-back : goal.canonical-requires-clause-back
canonical-requires-clause-back c =
    let s = c.args.strategy.now in
    adversary_leads_back s.format s.game (sizes_of s.game) c.in-Adversary.nodes
    (subst (AreLegalNodes s.format s.game (sizes_of s.game)) c.in-Adversary.is c.requires.legal)

pub canonical-requires-in-Algorithm-clause-of_game : goal.canonical-requires-in-Algorithm-clause-of_game
canonical-requires-in-Algorithm-clause-of_game c =
    let s = c.args.strategy.now in
    algorithm_positions s.format s.game c.in-Algorithm.nodes (subst (AreLegalNodes s.format s.game (sizes_of s.game)) c.in-Algorithm.is c.requires.legal)

pub canonical-requires-in-Algorithm-clause-back : goal.canonical-requires-in-Algorithm-clause-back
canonical-requires-in-Algorithm-clause-back c =
    let s = c.args.strategy.now in
    algorithm_leads_back s.format s.game (sizes_of s.game) c.in-Algorithm.nodes
    (subst (AreLegalNodes s.format s.game (sizes_of s.game)) c.in-Algorithm.is c.requires.legal)
