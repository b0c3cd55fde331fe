use Rattle.loads.proofs.LoadsLemmas.{loads_after-rises}
use Rattle.loads.proofs.laws.loads_never_fall.Goals as goal

pub returns : goal.returns
returns c = loads_after-rises c.args.loads.now c.args.load c.args.size c.as_slice-loads.ensures.loads.descending c.requires
