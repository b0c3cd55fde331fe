use Rattle.node_pool.proofs.terms.Terms.of_sizes.Goals as goal

pub invariant_of-result : goal.invariant_of-result
invariant_of-result c = rw c.copy.ensures.same (record { of_game = c.game_is_legal.ensures; sizes = c.requires.sizes })
