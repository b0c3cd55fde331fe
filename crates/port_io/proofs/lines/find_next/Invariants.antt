use Rattle.std.proofs.Common.{◌≡◌, ◌-◌, ◌≤◌, [], Contains, length}
use Rattle.port_io.specs.Reading.{ReadsOn}
use Rattle.port_io.specs.Lines.{lf, longest_line}
use Rattle.port_io.specs.Found.{NoLfBelow}
use Rattle.port_io.proofs.lines.find_next.Given as goal

-- The bytes searched have no LF, and what is held came from the source. Where a line was held, nothing was read.
abbrev pub invariant-loop-length : goal.invariant-loop-length
invariant-loop-length g l = record {
  searched : l.searched ≤ length l.ahead.held;
  short : l.searched ≤ longest_line;
  no_lf : NoLfBelow l.searched l.ahead.held;
  text : l.ahead.text ≡ [];
  count : g.S.Source.faults l.fn.source ≤ g.S.Source.faults l.source;
  reads : ReadsOn l.fn.ahead.held l.ahead.held (g.S.Source.left l.fn.source) (g.S.Source.left l.source);
  held : Contains l.fn.ahead.held lf → (l.source ≡ l.fn.source) × (l.ahead.held ≡ l.fn.ahead.held);
}

abbrev pub decreases-loop-length : goal.decreases-loop-length
decreases-loop-length g l = 16385 - length l.ahead.held
