use Rattle.std.proofs.Common.{◌≡◌}
use Rattle.node_pool.specs.Pools.{terms_in}
use Rattle.adversary_graph.proofs.tests.pool_of.Given as goal

abbrev pub invariant-loop-line : goal.invariant-loop-line
invariant-loop-line l = terms_in l.pool ≡ terms_in l.initial.pool
