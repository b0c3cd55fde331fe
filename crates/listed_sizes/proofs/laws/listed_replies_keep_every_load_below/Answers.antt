use Rattle.listed_sizes.proofs.ForcedLemmas.{listed_replies_keep_below}
use Rattle.listed_sizes.proofs.laws.listed_replies_keep_every_load_below.Goals as goal

pub returns : goal.returns
returns c = record { below = listed_replies_keep_below }
