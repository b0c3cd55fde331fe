use Rattle.transposition.proofs.RoomLemmas.{new_positions_find_room}
use Rattle.transposition.proofs.laws.new_positions_find_room.Goals as goal

pub returns : goal.returns
returns c = new_positions_find_room
