use Rattle.std.proofs.Common.{Some, ap}
use Rattle.port_io.proofs.SliceLemmas.{drop-given}
use Rattle.port_io.proofs.memory.MemSourceSource.read.Goals as goal

pub returns-clause-given : goal.returns-clause-given
returns-clause-given c =
    let s = c.self.inside in
    let copied = rw c.deref-2.ensures.value at c.copy_front-count.ensures.copied in
    rw (← c.self.view_is) (ap Some (drop-given c.copy_front-count.new.to s.bytes.items s.position c.copy_front-count.result copied))
