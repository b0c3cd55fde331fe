use Rattle.std.proofs.Common.{refl}
use Rattle.stretch_bench.specs.Pieces.{all, some}
use Rattle.stretch_bench.proofs.due.ended.Goals as goal

pub returns-in-Ok-write_due-clause-ending : goal.returns-in-Ok-write_due-clause-ending
returns-in-Ok-write_due-clause-ending g c = all c.in-Ok.due c.in-Ok.is refl c.in-Ok-write_due.ensures.ok

pub returns-in-Ok-clause-ending : goal.returns-in-Ok-clause-ending
returns-in-Ok-clause-ending g c = some c.in-Ok.due c.in-Ok.is refl c.in-Err.ensures.failed c.in-Err.ensures.err
