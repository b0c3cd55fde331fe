use Rattle.items.proofs.SizeBitsLemmas.{run_in, run_clear}
use Rattle.items.proofs.sizes.up_to.Goals as goal

pub returns-clause-value : goal.returns-clause-value
returns-clause-value c = run_in c.args.most c.requires.high

pub returns-clause-clear : goal.returns-clause-clear
returns-clause-clear c = run_clear c.args.most c.requires.high
