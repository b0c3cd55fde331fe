use Rattle.std.proofs.Common.{◌≡◌, ◌-◌, ◌≤◌, length}
use Rattle.referee_session.specs.Turns.{GoesOn}
use Rattle.referee_session.proofs.TurnLemmas.{sitting}
use Rattle.referee_session.proofs.refereeing.referee.Given as goal

abbrev pub invariant-loop-lines : goal.invariant-loop-lines
invariant-loop-lines g l = record {
  pool : l.session.pool ≡ l.fn.session.pool;
  root : l.session.root ≡ l.fn.session.root;
  on : GoesOn (sitting l.fn.session.pool l.fn.session.root l.fn.lines (g.S.Source.left l.fn.source) (g.K.Sink.written l.fn.sink)
      l.session.answers l.lines (g.S.Source.left l.source) (g.K.Sink.written l.sink));
  reads : g.S.Source.faults l.fn.source ≤ g.S.Source.faults l.source;
  writes : g.K.Sink.faults l.fn.sink ≤ g.K.Sink.faults l.sink;
}

abbrev pub decreases-loop-lines : goal.decreases-loop-lines
decreases-loop-lines g l = 960 - length l.session.answers
