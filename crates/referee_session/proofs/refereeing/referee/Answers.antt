use Rattle.std.proofs.Common.{◌∙◌, ◌+◌, ℕ, List, ap, sym, subst, refl, inl, arith}
use Rattle.std.specs.Prelude.{not}
use Rattle.std.proofs.lemmas.Bool.{false≢true}
use Rattle.items.specs.Game.{GameNumbers}
use Rattle.adversary_graph.specs.Pools.{Pool}
use Rattle.referee_session.specs.Answering.{IsNext}
use Rattle.referee_session.specs.Halt as why
use Rattle.referee_session.specs.Lines.{bad_line, ended_line}
use Rattle.referee_session.specs.Refereed.{StopsSaying}
use Rattle.referee_session.specs.Session.{HasEnded, SessionState}
use Rattle.referee_session.specs.Turns.{GoesOn}
use Rattle.referee_session.proofs.TurnLemmas.{asking, at_err, at_ok, begins, begins_not, closed, comes_cut, comes_ended, comes_other, goes_on_by, not_ended, sitting}
use Rattle.referee_session.proofs.TurnLemmas.{stops_reading, stops_saying_by}
use Rattle.referee_session.proofs.refereeing.referee.Goals as goal

pub returns-then-is_err-clause-outcome : goal.returns-then-is_err-clause-outcome
returns-then-is_err-clause-outcome g c =
    let s = c.args.session.now in
    let reader = c.args.lines.now in
    let left = g.S.Source.left c.args.source.now in
    let written = g.K.Sink.written c.args.sink.now in
    let new = g.K.Sink.written c.open.new.sink in
    let some = at_err c.open.result (sym c.is_err.ensures.value ∙ c.if-is_err.true) c.open.ensures.err in
    inl (subst (λ (answers : List ℕ). StopsSaying (sitting s.pool s.root reader left written answers reader left new)) (sym c.requires.new)
    (begins_not s.pool s.root reader left written new some))

pub loop-lines-init : goal.loop-lines-init
loop-lines-init g c =
    let s = c.args.session.now in
    let reader = c.args.lines.now in
    let left = g.S.Source.left c.args.source.now in
    let written = g.K.Sink.written c.args.sink.now in
    let new = g.K.Sink.written c.open.new.sink in
    let whole = at_ok c.open.result (sym c.is_err.ensures.value ∙ c.if-is_err.false) c.open.ensures.ok in
    record {
      pool = refl;
      root = refl;
      on = subst (λ (answers : List ℕ). GoesOn (sitting s.pool s.root reader left written answers reader left new)) (sym c.requires.new)
          (begins s.pool s.root reader left written new whole);
      reads = omega arith;
      writes = c.open.ensures.count;
    }

pub returns-in_default-clause-outcome : goal.returns-in_default-clause-outcome
returns-in_default-clause-outcome g c =
    let p = c.args.session.now in
    let i = c.loop-lines.invariant in
    let now = c.loop-lines.session in
    let going : HasEnded now → ⊥ = λ over. false≢true (sym (c.due.ensures.exact.1 over) ∙ c.is_none.ensures ∙ ap not c.if-is_none.false) in
    let reader = c.args.lines.now in
    let left = g.S.Source.left c.args.source.now in
    let written = g.K.Sink.written c.args.sink.now in
    stops_reading p.pool p.root reader left written now.answers c.loop-lines.lines (g.S.Source.left c.loop-lines.source) (g.K.Sink.written c.loop-lines.sink) i.on
    c.m.result c.next_answer.new.lines (g.S.Source.left c.next_answer.new.source)
    (not_ended p.pool p.root reader left written now i.pool i.root going) c.in_default.ensures.err

pub returns-then-is_err-2-clause-outcome : goal.returns-then-is_err-2-clause-outcome
returns-then-is_err-2-clause-outcome g c =
    let p = c.args.session.now in
    let i = c.loop-lines.invariant in
    let now = c.loop-lines.session in
    let reader = c.args.lines.now in
    let left = g.S.Source.left c.args.source.now in
    let written = g.K.Sink.written c.args.sink.now in
    let mid = g.S.Source.left c.loop-lines.source in
    let told = g.K.Sink.written c.loop-lines.sink in
    let new = g.S.Source.left c.next_answer.new.source in
    let more = g.K.Sink.written c.tell.new.sink in
    let next = subst (IsNext (asking p.pool p.root reader left written c.m.result c.loop-lines.lines c.next_answer.new.lines mid new)) c.in-Bin.is c.in-Ok.ensures.ok in
    let some = at_err c.tell.result (sym c.is_err-in-Bin.ensures.value ∙ c.if-is_err-2.true) c.tell.ensures.err in
    inl (stops_saying_by p.pool p.root reader left written now c.answer.new.self c.in-Bin.bin i.pool i.root c.answer.ensures.answered c.session_is_legal-in-Bin.ensures
    c.loop-lines.lines c.next_answer.new.lines mid told new more i.on c.m.result next.0 some)

pub loop-lines-preserved : goal.loop-lines-preserved
loop-lines-preserved g c =
    let p = c.args.session.now in
    let i = c.loop-lines.invariant in
    let now = c.loop-lines.session in
    let reader = c.args.lines.now in
    let left = g.S.Source.left c.args.source.now in
    let written = g.K.Sink.written c.args.sink.now in
    let mid = g.S.Source.left c.loop-lines.source in
    let told = g.K.Sink.written c.loop-lines.sink in
    let new = g.S.Source.left c.next_answer.new.source in
    let more = g.K.Sink.written c.tell.new.sink in
    let next = subst (IsNext (asking p.pool p.root reader left written c.m.result c.loop-lines.lines c.next_answer.new.lines mid new)) c.in-Bin.is c.in-Ok.ensures.ok in
    let whole = at_ok c.tell.result (sym c.is_err-in-Bin.ensures.value ∙ c.if-is_err-2.false) c.tell.ensures.ok in
    record {
      pool = ap (λ (state : SessionState). state.pool) c.answer.ensures.answered ∙ i.pool;
      root = ap (λ (state : SessionState). state.root) c.answer.ensures.answered ∙ i.root;
      on = goes_on_by p.pool p.root reader left written now c.answer.new.self c.in-Bin.bin i.pool i.root c.answer.ensures.answered c.session_is_legal-in-Bin.ensures
          c.loop-lines.lines c.next_answer.new.lines mid told new more i.on c.m.result next.0 whole;
      reads = omega (arith, i.reads, c.next_answer.ensures.count);
      writes = omega (arith, i.writes, c.tell.ensures.count);
    }

pub returns-in-End-clause-outcome : goal.returns-in-End-clause-outcome
returns-in-End-clause-outcome g c =
    let p = c.args.session.now in
    let i = c.loop-lines.invariant in
    let now = c.loop-lines.session in
    let going : HasEnded now → ⊥ = λ over. false≢true (sym (c.due.ensures.exact.1 over) ∙ c.is_none.ensures ∙ ap not c.if-is_none.false) in
    let reader = c.args.lines.now in
    let left = g.S.Source.left c.args.source.now in
    let written = g.K.Sink.written c.args.sink.now in
    let mid = g.S.Source.left c.loop-lines.source in
    let told = g.K.Sink.written c.loop-lines.sink in
    let new = g.S.Source.left c.next_answer.new.source in
    let more = g.K.Sink.written c.close.new.sink in
    let next = subst (IsNext (asking p.pool p.root reader left written c.m.result c.loop-lines.lines c.next_answer.new.lines mid new)) c.in-End.is c.in-Ok.ensures.ok in
    let not_over = not_ended p.pool p.root reader left written now i.pool i.root going in
    let comes = comes_ended p.pool p.root reader left written now.answers c.loop-lines.lines mid told i.on c.m.result c.next_answer.new.lines new told not_over next in
    closed p.pool p.root reader left written now.answers c.loop-lines.lines c.next_answer.new.lines mid told new more _
    c.ended_line.result why.ended c.close.result _ i.on comes refl
    (c.ended_line.ensures ∙ ap ended_line c.count.ensures.count) c.close.ensures.closed

pub returns-in-Cut-clause-outcome : goal.returns-in-Cut-clause-outcome
returns-in-Cut-clause-outcome g c =
    let p = c.args.session.now in
    let i = c.loop-lines.invariant in
    let now = c.loop-lines.session in
    let going : HasEnded now → ⊥ = λ over. false≢true (sym (c.due.ensures.exact.1 over) ∙ c.is_none.ensures ∙ ap not c.if-is_none.false) in
    let reader = c.args.lines.now in
    let left = g.S.Source.left c.args.source.now in
    let written = g.K.Sink.written c.args.sink.now in
    let mid = g.S.Source.left c.loop-lines.source in
    let told = g.K.Sink.written c.loop-lines.sink in
    let new = g.S.Source.left c.next_answer.new.source in
    let more = g.K.Sink.written c.close-in-Cut.new.sink in
    let next = subst (IsNext (asking p.pool p.root reader left written c.m.result c.loop-lines.lines c.next_answer.new.lines mid new)) c.in-Cut.is c.in-Ok.ensures.ok in
    let not_over = not_ended p.pool p.root reader left written now i.pool i.root going in
    let comes = comes_cut p.pool p.root reader left written now.answers c.loop-lines.lines mid told i.on c.m.result c.next_answer.new.lines new told not_over next in
    closed p.pool p.root reader left written now.answers c.loop-lines.lines c.next_answer.new.lines mid told new more _
    c.bad_line.result why.cut c.close-in-Cut.result _ i.on comes refl
    (c.bad_line.ensures ∙ ap (λ (n : ℕ). bad_line (n + 1)) c.count-in-Cut.ensures.count) c.close-in-Cut.ensures.closed

pub returns-in-Other-clause-outcome : goal.returns-in-Other-clause-outcome
returns-in-Other-clause-outcome g c =
    let p = c.args.session.now in
    let i = c.loop-lines.invariant in
    let now = c.loop-lines.session in
    let going : HasEnded now → ⊥ = λ over. false≢true (sym (c.due.ensures.exact.1 over) ∙ c.is_none.ensures ∙ ap not c.if-is_none.false) in
    let reader = c.args.lines.now in
    let left = g.S.Source.left c.args.source.now in
    let written = g.K.Sink.written c.args.sink.now in
    let mid = g.S.Source.left c.loop-lines.source in
    let told = g.K.Sink.written c.loop-lines.sink in
    let new = g.S.Source.left c.next_answer.new.source in
    let more = g.K.Sink.written c.close-in-Other.new.sink in
    let next = subst (IsNext (asking p.pool p.root reader left written c.m.result c.loop-lines.lines c.next_answer.new.lines mid new)) c.in-Other.is c.in-Ok.ensures.ok in
    let not_over = not_ended p.pool p.root reader left written now i.pool i.root going in
    let of_game = c.m.ensures.value ∙ ap (λ (game : GameNumbers). game.bins) c.game.ensures.value ∙ ap (λ (pool : Pool). pool.game.bins) i.pool in
    let comes = comes_other p.pool p.root reader left written now.answers c.loop-lines.lines mid told i.on c.m.result next.0 c.next_answer.new.lines new told
    of_game not_over next.1 in
    closed p.pool p.root reader left written now.answers c.loop-lines.lines c.next_answer.new.lines mid told new more _
    c.bad_line-in-Other.result (why.other next.0)
    c.close-in-Other.result _ i.on comes refl (c.bad_line-in-Other.ensures ∙ ap (λ (n : ℕ). bad_line (n + 1)) c.count-in-Other.ensures.count)
    c.close-in-Other.ensures.closed
