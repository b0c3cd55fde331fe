use Rattle.std.proofs.Common.{◌≡◌, ◌+◌, ◌*◌}
use Rattle.node_pool.specs.Pools.{terms_in}
use Rattle.forcing.proofs.writing.+writing.Given as goal

abbrev pub decreases-write : goal.decreases-write
decreases-write g l = 2 * l.left + 1

abbrev pub decreases-write_children : goal.decreases-write_children
decreases-write_children g l = 2 * l.left

abbrev pub invariant-write_children-loop-place : goal.invariant-write_children-loop-place
invariant-write_children-loop-place g l = terms_in l.writing.book.nodes ≡ terms_in l.fn.writing.book.nodes
