use Rattle.std.proofs.Common.{length, take, ◌-◌, ◌≡◌, ◌≤◌}
use Rattle.std.specs.Io.KnownBytes.{append_known}
use Rattle.port_io.proofs.sinks.put_all.Given as goal

-- So much of the piece was written, and the count did not fall.
abbrev pub invariant-loop-done : goal.invariant-loop-done
invariant-loop-done g l = record {
  within : l.done ≤ length l.piece;
  count : g.K.Sink.faults l.fn.sink ≤ g.K.Sink.faults l.sink;
  written : g.K.Sink.written l.sink ≡ append_known (g.K.Sink.written l.fn.sink) (take l.done l.piece);
}

abbrev pub decreases-loop-done : goal.decreases-loop-done
decreases-loop-done g l = length l.piece - l.done
