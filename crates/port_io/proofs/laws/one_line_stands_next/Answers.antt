use Rattle.port_io.proofs.NextLemmas.{with_lf-only}
use Rattle.port_io.proofs.laws.one_line_stands_next.Goals as goal

pub returns : goal.returns
returns c = with_lf-only
