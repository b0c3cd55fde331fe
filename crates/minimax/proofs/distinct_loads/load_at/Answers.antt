use Rattle.std.proofs.Common.{get_or, subst, sym, arith}
use Rattle.std.specs.Prelude.{Contains}
use Rattle.std.proofs.lemmas.List.Elements.{Contains-get_or}
use Rattle.loads.specs.Descending.{distinct}
use Rattle.loads.proofs.DistinctLemmas.{Contains-from_distinct}
use Rattle.minimax.proofs.distinct_loads.load_at.Goals as goal

pub returns-clause-member : goal.returns-clause-member
returns-clause-member c =
    let all = distinct c.args.position.now.loads in
    let load = get_or all c.args.i 0 in
    subst (λ xs. Contains c.args.position.now.loads (get_or xs c.args.i 0)) (sym c.requires.of_loads)
    (Contains-from_distinct load c.args.position.now.loads (Contains-get_or all c.args.i 0 (omega (arith, c.requires.within))))
