use Rattle.std.proofs.Common.{◌+◌, ◌++◌, ◌∙◌, sym, subst, List, ℕ, arith}
use Rattle.std.proofs.lemmas.Option.{same_Some}
use Rattle.adversary_graph.specs.Nodes.{sent_items}
use Rattle.adversary_graph.proofs.EndLemmas.{PacksEnough, end_packing_holds, few_of_each, has_end_packing}
use Rattle.adversary_graph.proofs.plays.packing_for.Goals as goal

pub without_beyond-requires : goal.without_beyond-requires
without_beyond-requires c =
    let pool = c.args.pool.now in
    let end = c.requires.end in
    let has = has_end_packing pool c.pool_is_legal.ensures (c.args.number + 1) c.args.number end.0 (omega arith) end.1 in
    let same = same_Some has.0 c.end_packing.result.now (sym has.1 ∙ c.end_packing.ensures) in
    record {
      few = few_of_each pool.game (end.0.items ++ sent_items end.0.step) c.end_packing.result.now c.pool_is_legal.ensures.of_game
          (subst (λ (bins : List (List ℕ)). PacksEnough pool.game (end.0.items ++ sent_items end.0.step) bins) same has.2);
    }

pub returns-clause-packed : goal.returns-clause-packed
returns-clause-packed c =
    let pool = c.args.pool.now in
    let end = c.requires.end in
    let has = has_end_packing pool c.pool_is_legal.ensures (c.args.number + 1) c.args.number end.0 (omega arith) end.1 in
    let same = same_Some has.0 c.end_packing.result.now (sym has.1 ∙ c.end_packing.ensures) in
    let enough = subst (λ (bins : List (List ℕ)). PacksEnough pool.game (end.0.items ++ sent_items end.0.step) bins) same has.2 in
    rw (c.in_ok-packing.ensures, c.game-game.ensures.value) (end_packing_holds pool.game c.args.items.now
    (end.0.items ++ sent_items end.0.step) c.end_packing.result.now enough end.2)
