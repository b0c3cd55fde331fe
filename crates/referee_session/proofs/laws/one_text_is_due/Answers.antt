use Rattle.referee_session.proofs.DueLemmas.{one_text_is_due as only_one, said_is_at_the_front, some_text_is_due}
use Rattle.referee_session.proofs.laws.one_text_is_due.Goals as goal

pub returns : goal.returns
returns c = record { some = some_text_is_due; one = only_one; front = said_is_at_the_front }
