use Rattle.items.proofs.SizesLemmas.{sizes_are_sizes}
use Rattle.node_pool.proofs.terms.Terms.of_game.Goals as goal

pub invariant_of-result : goal.invariant_of-result
invariant_of-result c =
    rw c.of_game.ensures.value (record { of_game = c.game_is_legal.ensures; sizes = sizes_are_sizes c.args.game.now })
