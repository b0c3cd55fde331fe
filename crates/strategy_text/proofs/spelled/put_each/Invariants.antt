use Rattle.std.proofs.Common.{take}
use Rattle.std.specs.List.{flat_map}
use Rattle.strategy_text.specs.Writing.{standing, Took, spaced}
use Rattle.strategy_text.proofs.spelled.put_each.Given as goal

abbrev pub invariant-loop-value : goal.invariant-loop-value
invariant-loop-value g l =
    Took (standing (g.K.Sink.written l.fn.sink) (g.K.Sink.faults l.fn.sink) l.fn.buffer) (standing (g.K.Sink.written l.sink) (g.K.Sink.faults l.sink) l.buffer)
    (spaced (flat_map g.T.Spelled.words (take l.value-index l.list)))
