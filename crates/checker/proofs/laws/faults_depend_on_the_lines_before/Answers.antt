use Rattle.checker.proofs.PrefixLemmas.{depends_on_lines_before}
use Rattle.checker.proofs.laws.faults_depend_on_the_lines_before.Goals as goal

pub returns : goal.returns
returns c = depends_on_lines_before
