use Rattle.referee_session.proofs.PlayedLemmas.{plays_are_talks, talks_are_plays as each_is_played}
use Rattle.referee_session.proofs.laws.talks_are_plays.Goals as goal

pub returns : goal.returns
returns c = record { plays = plays_are_talks; talks = each_is_played }
