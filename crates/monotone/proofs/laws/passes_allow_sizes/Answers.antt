use Rattle.monotone.proofs.PassLemmas.{allowed_in-exact, allowed_later, allowed_last}
use Rattle.monotone.proofs.laws.passes_allow_sizes.Goals as goal

pub returns : goal.returns
returns c = record { exact = allowed_in-exact; later = allowed_later; last = allowed_last }
