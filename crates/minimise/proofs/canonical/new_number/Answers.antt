use Rattle.std.proofs.Common.{sym, ◌∙◌}
use Rattle.minimise.proofs.OrderLemmas.{place_or_length}
use Rattle.minimise.proofs.canonical.new_number.Goals as goal

pub returns-in-None : goal.returns-in-None
returns-in-None c = c.len.ensures ∙ place_or_length c.args.number c.args.order.now.numbers (sym c.place.ensures ∙ c.in-None.is)
