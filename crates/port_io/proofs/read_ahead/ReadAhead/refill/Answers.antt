use Rattle.std.proofs.Common.{◌+◌, ap, ◌∙◌, slice_range}
use Rattle.port_io.specs.Reading.{Ahead}
use Rattle.port_io.proofs.SliceLemmas.{slice_range-filled}
use Rattle.port_io.proofs.read_ahead.ReadAhead.refill.Goals as goal

pub returns-clause-reads : goal.returns-clause-reads
returns-clause-reads g c =
    let end = c.move_to_front-end.result in
    let ys = c.read_behind.new.bytes.items in
    let held_of : Ahead → _ = λ a. a.held in (
      slice_range ys end (end + c.in_ok-count.count),
      slice_range-filled c.args.self.now.held c.move_to_front-end.new.bytes.items ys end c.in_ok-count.count
          (c.move_to_front-end.ensures.moved ∙ ap held_of c.self.view_is) c.read_behind.ensures.before,
      c.in_ok-count.ensures.given,
    )
