use Rattle.std.proofs.Common.{◌∙◌, refl, sym, subst}
use Rattle.items.specs.Game.{IsGame, numbers}
use Rattle.items.specs.GameFaults.{IsFaultOf}
use Rattle.adversary_graph.specs.Pools.{AreLegal}
use Rattle.strategy_transfer.specs.Scaled.{scaled_game}
use Rattle.strategy_transfer.proofs.ScaleLemmas.{legal_fits, made_game, no_greater_game, scaled_nodes_are_legal}
use Rattle.strategy_transfer.proofs.scaled.scale.Goals as goal

pub scaled_nodes-requires : goal.scaled_nodes-requires
scaled_nodes-requires c =
    let s = c.args.strategy.now in
    record { can = legal_fits c.args.c s.format s.game s.nodes c.requires.high c.requires.legal }

pub returns-in_ok-scaled_nodes-in-Ok-clause-legal : goal.returns-in_ok-scaled_nodes-in-Ok-clause-legal
returns-in_ok-scaled_nodes-in-Ok-clause-legal c =
    let s = c.args.strategy.now in
    let great = scaled_game c.args.c s.game in
    let is = made_game c.args.c c.m.result c.g.result c.t.result s.game c.in-Ok.game c.m.ensures.value c.g.ensures.value c.t.ensures.value c.in-Ok.ensures.exact.0 in
    let of_game = subst IsGame (sym c.in-Ok.ensures.exact.0 ∙ is) c.in-Ok.ensures.exact.1 in
    subst (λ game. AreLegal s.format game c.in_ok-scaled_nodes-in-Ok.field-0) (sym is)
    (subst (λ nodes. AreLegal s.format great nodes) (sym c.in_ok-scaled_nodes-in-Ok.ensures)
    (scaled_nodes_are_legal c.args.c s.format s.game s.nodes c.requires.low of_game c.requires.legal))

pub returns-in-Err-clause-exact : goal.returns-in-Err-clause-exact
returns-in-Err-clause-exact c = λ can.
    let s = c.args.strategy.now in
    let is = made_game c.args.c c.m.result c.g.result c.t.result s.game (numbers c.m.result _ _) c.m.ensures.value c.g.ensures.value c.t.ensures.value refl in
    no_greater_game c.args.c s.game c.in-Err.field-0 c.requires.low c.g.ensures.legal
    (subst (λ game. IsFaultOf game c.in-Err.field-0) is c.in-Err.ensures.exact) can
