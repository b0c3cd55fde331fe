use Rattle.port_io.proofs.NextLemmas.{stands_next}
use Rattle.port_io.proofs.laws.one_thing_stands_next.Goals as goal

pub returns : goal.returns
returns c = stands_next
