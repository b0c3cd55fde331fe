-- Serves private contracts: how a list of packed positions lies in memory.
use Rattle.std.specs.Prelude.{ℕ, ◌≤◌, List, length, map, take, slice_range}
use Rattle.loads.specs.Packed.{ArePositionBytes, position_in}
use Rattle.loads.specs.declared.packed_list.Slot.{Slot}
use Rattle.loads.specs.declared.packed_list.Slot.TheVariants.{Short, Long}
use Rattle.loads.specs.declared.position.Position.{Position}

-- the bytes of a slot, beside the bytes of the long ones
abbrev pub bytes_in : List ℕ → Slot → List ℕ
bytes_in others (Short count bytes) = take count bytes
bytes_in others (Long start end) = slice_range others start end

-- they are there, where the bytes of the long ones are so many
abbrev pub IsWithin : ℕ → Slot → Type 0
IsWithin total (Short count bytes) = count ≤ 22
IsWithin total (Long start end) = (start ≤ end) × (end ≤ total)

-- they are the bytes of a position
pub record IsKept (others : List ℕ) (slot : Slot) : Type 0 where
  pub within : IsWithin (length others) slot
  pub legal : ArePositionBytes (bytes_in others slot)

-- the positions in slots
abbrev pub positions_in : List ℕ → List Slot → List Position
positions_in others slots = map (λ slot. position_in (bytes_in others slot)) slots
