use Rattle.std.proofs.Common.{◌∙◌, ℕ, List, Option, ap, subst}
use Rattle.std.proofs.lemmas.Result.{on_err_weaker, on_ok_weaker}
use Rattle.std.specs.Io.KnownBytes.{append_known}
use Rattle.port_io.specs.Told.{AppendsSome}
use Rattle.port_io.proofs.ToldLemmas.{append_known-append, AppendsSome-longer, AppendsSome-then}
use Rattle.referee_session.specs.Lines.{line_at, session_line}
use Rattle.referee_session.specs.Session.{talk_of}
use Rattle.referee_session.proofs.TurnLemmas.{opening}
use Rattle.referee_session.proofs.refereeing.open.Goals as goal

pub returns-in-Ok-clause-ok : goal.returns-in-Ok-clause-ok
returns-in-Ok-clause-ok g c =
    let s = c.args.session.now in
    let first = c.as_slice.result.now in
    let line = line_at s.pool.game s.pool.nodes (talk_of s) in
    let w0 = g.K.Sink.written c.args.sink.now in
    let all = opening s first c.requires (c.as_slice.ensures ∙ c.session_line.ensures ∙ ap session_line c.game.ensures.value) in
    let whole = ap (λ (w : Option (List ℕ)). append_known w line) c.in-Ok.ensures.ok ∙ append_known-append w0 first line ∙ ap (append_known w0) all in
    on_ok_weaker c.tell.result (λ e. e ∙ whole) c.tell.ensures.ok

pub returns-in-Ok-clause-err : goal.returns-in-Ok-clause-err
returns-in-Ok-clause-err g c =
    let s = c.args.session.now in
    let first = c.as_slice.result.now in
    let line = line_at s.pool.game s.pool.nodes (talk_of s) in
    let w0 = g.K.Sink.written c.args.sink.now in
    let w1 = g.K.Sink.written c.put_all.new.sink in
    let w2 = g.K.Sink.written c.tell.new.sink in
    let all = opening s first c.requires (c.as_slice.ensures ∙ c.session_line.ensures ∙ ap session_line c.game.ensures.value) in
    on_err_weaker c.tell.result (λ some. subst (AppendsSome w0 w2) all (AppendsSome-then w0 w1 w2 first line c.in-Ok.ensures.ok some)) c.tell.ensures.err

pub returns-in-Err-clause-err : goal.returns-in-Err-clause-err
returns-in-Err-clause-err g c =
    let s = c.args.session.now in
    let first = c.as_slice.result.now in
    let line = line_at s.pool.game s.pool.nodes (talk_of s) in
    let w0 = g.K.Sink.written c.args.sink.now in
    let w1 = g.K.Sink.written c.put_all.new.sink in
    let all = opening s first c.requires (c.as_slice.ensures ∙ c.session_line.ensures ∙ ap session_line c.game.ensures.value) in
    subst (AppendsSome w0 w1) all (AppendsSome-longer w0 w1 first line c.in-Err.ensures.err)
