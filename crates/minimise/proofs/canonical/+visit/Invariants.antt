use Rattle.std.proofs.Common.{◌≡◌, ◌+◌, ◌++◌, map, take}
use Rattle.std.specs.List.{flat_map}
use Rattle.minimise.specs.Canonical.{firsts, leads, walk}
use Rattle.minimise.proofs.canonical.+visit.Given as goal

abbrev pub decreases-visit : goal.decreases-visit
decreases-visit g l = l.number

abbrev pub invariant-loop-reference : goal.invariant-loop-reference
invariant-loop-reference g l =
    let next = leads (map g.N.Node.position_of l.fn.nodes) (map g.N.Node.references_of l.fn.nodes) in
    record {
      count : l.order.count ≡ l.fn.order.count;
      numbers : l.order.numbers
          ≡ firsts (l.fn.order.numbers ++ flat_map (λ child. walk next (child + 1) child) (take l.reference-index (next l.fn.number)));
    }
