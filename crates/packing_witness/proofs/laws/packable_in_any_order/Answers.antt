use Rattle.std.proofs.Common.{sym}
use Rattle.packing_witness.proofs.PackableLemmas.{Packable-Same}
use Rattle.packing_witness.proofs.laws.packable_in_any_order.Goals as goal

pub returns : goal.returns
returns c = record { order = λ game xs ys s. (Packable-Same game xs ys s, Packable-Same game ys xs (λ x. sym (s x))) }
