use Rattle.packing_witness.proofs.PackingLemmas.{size_of_last, le_room, Packable-from_room}
use Rattle.packing_witness.proofs.laws.sizes_up_to_the_room_may_come.Goals as goal

pub returns : goal.returns
returns c = record {
  sizes = λ game items room size r.
      (λ p. ((size_of_last game items size p).low, le_room game items room size r p), λ h. Packable-from_room game items room size r h.0 h.1);
}
