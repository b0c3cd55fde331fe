use Rattle.online_play.proofs.WonLemmas.{forced_not_below}
use Rattle.online_play.proofs.laws.forced_is_not_below.Goals as goal

pub returns : goal.returns
returns c = record { excludes = forced_not_below }
