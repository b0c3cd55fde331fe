use Rattle.std.proofs.Common.{length}
use Rattle.loads.proofs.packed_list.slot_of_last.Goals as goal

pub returns-clause-within : goal.returns-clause-within
returns-clause-within c = c.short_slot-slot.ensures.within (length c.truncate.new.self.items)
