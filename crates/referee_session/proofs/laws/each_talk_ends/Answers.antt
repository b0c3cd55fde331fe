use Rattle.referee_session.proofs.PlayedLemmas.{each_talk_ends as each_ends, over_is_lost}
use Rattle.referee_session.proofs.laws.each_talk_ends.Goals as goal

pub returns : goal.returns
returns c = record { ends = each_ends; lost = over_is_lost }
