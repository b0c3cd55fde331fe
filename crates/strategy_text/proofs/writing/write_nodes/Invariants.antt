use Rattle.std.proofs.Common.{take}
use Rattle.strategy_text.specs.Text.{nodes_of}
use Rattle.strategy_text.specs.Writing.{standing, Took}
use Rattle.strategy_text.proofs.TextPieces.{nodes_text}
use Rattle.strategy_text.proofs.writing.write_nodes.Given as goal

abbrev pub invariant-loop-number : goal.invariant-loop-number
invariant-loop-number g l =
    Took (standing (g.K.Sink.written l.fn.sink) (g.K.Sink.faults l.fn.sink) l.fn.buffer) (standing (g.K.Sink.written l.sink) (g.K.Sink.faults l.sink) l.buffer)
    (nodes_text (take l.number (nodes_of l.nodes)))
