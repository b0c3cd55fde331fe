use Rattle.monotone.proofs.OrderLemmas.{no_path_before_itself, ComesBefore-trans, paths_compare}
use Rattle.monotone.proofs.laws.paths_are_ordered.Goals as goal

pub returns : goal.returns
returns c = record { itself = no_path_before_itself; compose = ComesBefore-trans; compare = paths_compare }
