use Rattle.referee_session.proofs.AnswerLemmas.{other_bin}
use Rattle.referee_session.proofs.answer.bin_of.Goals as goal

pub returns-else-bin-bins : goal.returns-else-bin-bins
returns-else-bin-bins c =
    let parsed = c.in_ok-bin.ensures.exact in
    other_bin c.args.line.now c.in_ok-bin.bin c.args.bins parsed.1 c.if-bin-bins.false c.requires parsed.0
