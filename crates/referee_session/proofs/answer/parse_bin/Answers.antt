use Rattle.referee_session.proofs.AnswerLemmas.{after_bin, parse_exact}
use Rattle.referee_session.proofs.answer.parse_bin.Goals as goal

pub returns : goal.returns
returns c =
    let line = c.args.line.now in
    let word = c.in-Some.word.now in
    let h = c.in-Some.ensures.cases in
    record { exact = parse_exact line word c.number.result (after_bin line word c.as_slice.result.now c.as_slice.ensures h.0 h.1) c.number.ensures }
