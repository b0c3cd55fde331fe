use Rattle.std.proofs.Common.{inr, rules}
use Rattle.referee_session.proofs.answer.next_answer.Goals as goal

pub returns-in-TooLong-clause-ok : goal.returns-in-TooLong-clause-ok
returns-in-TooLong-clause-ok g c = inr (search rules)
