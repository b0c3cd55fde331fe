use Rattle.port_io.proofs.FaultLemmas.{rose_means}
use Rattle.port_io.proofs.laws.a_count_that_rose_grew_or_stands_at_its_last_value.Goals as goal

pub returns : goal.returns
returns c = rose_means
