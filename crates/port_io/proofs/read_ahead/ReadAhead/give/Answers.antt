use Rattle.port_io.proofs.SliceLemmas.{Ahead-given}
use Rattle.port_io.proofs.read_ahead.ReadAhead.give.Goals as goal

pub returns : goal.returns
returns c =
    let b = c.self.inside in
    let within = rw (← c.self.view_is) at c.requires in
    rw (← c.self.view_is) (Ahead-given b.bytes.items b.start b.end c.args.count within)
