use Rattle.std.proofs.Common.{length, ap, arith}
use Rattle.loads.proofs.DistinctLemmas.{length-distinct-le}
use Rattle.minimax.proofs.distinct_loads.count_of.Goals as goal

pub returns-clause-few : goal.returns-clause-few
returns-clause-few c = omega (arith, ap length c.requires.of_loads, length-distinct-le c.args.position.now.loads, c.as_slice-loads.ensures.loads.few)
