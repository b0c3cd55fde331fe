use Rattle.std.proofs.Common.{refl}
use Rattle.loads.proofs.LoadsLemmas.{Same-loads_after}
use Rattle.loads.proofs.laws.bins_of_a_load_are_alike.Goals as goal

pub returns : goal.returns
returns c = Same-loads_after c.args.actual.now c.args.loads.now c.args.bin _ c.args.size c.requires.renamed c.requires.in_range refl
