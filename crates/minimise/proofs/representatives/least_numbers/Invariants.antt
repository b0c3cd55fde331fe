use Rattle.std.proofs.Common.{◌≡◌, map, take}
use Rattle.std.specs.Prelude.{position}
use Rattle.indexmap.specs.IndexMap.{get}
use Rattle.loads.specs.Position.{are_equal}
use Rattle.loads.specs.declared.position.Position.{Position}
use Rattle.minimise.specs.Canonical.{representatives}
use Rattle.minimise.proofs.representatives.least_numbers.Given as goal

abbrev pub invariant-loop-node : goal.invariant-loop-node
invariant-loop-node g l =
    let positions = map g.N.Node.position_of l.nodes in
    record {
      least : l.least.items ≡ take l.node-index (representatives positions);
      index : (other : Position) → get are_equal l.index other ≡ position (are_equal other) (take l.node-index positions);
    }
