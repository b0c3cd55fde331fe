-- What a node of the adversary sends, shows and leads to. The rules and plays speak of nodes by these words alone.
use Rattle.std.specs.Prelude.{ℕ, List, [], ◌∷◌, Option, Some, replicate}
use Rattle.loads.specs.declared.position.Position.{Position}
use Rattle.loads.specs.Position.{position}
use Rattle.strategy_text.specs.declared.node.AdvNode.{AdvNode}
use Rattle.strategy_text.specs.declared.node.Format.{Format}
use Rattle.strategy_text.specs.declared.node.Format.TheVariants.{One, Two}
use Rattle.strategy_text.specs.declared.node.Placement.{Placement}
use Rattle.strategy_text.specs.declared.node.Step.{Step}
use Rattle.strategy_text.specs.declared.node.Step.TheVariants.{Send, Burst}

-- the position of a node
abbrev pub position_of : AdvNode → Position
position_of node = position node.loads node.items

-- the size that a step sends, once or in a burst
abbrev pub sent_size : Step → ℕ
sent_size (Send size pack placements) = size
sent_size (Burst number size pack) = size

-- all items that a step sends, in their order
abbrev pub sent_items : Step → List ℕ
sent_items (Send size pack placements) = size ∷ []
sent_items (Burst number size pack) = replicate number size

-- the packing that a step shows, if it shows one
abbrev pub packing_of : Step → Option (List (List ℕ))
packing_of (Send size pack placements) = pack
packing_of (Burst number size pack) = Some pack

-- what follows for each load; a burst ends the play
abbrev pub placements_of : Step → List Placement
placements_of (Send size pack placements) = placements
placements_of (Burst number size pack) = []

-- only format 2 has bursts
abbrev pub IsOfFormat : Format → Step → Type 0
IsOfFormat One (Send size pack placements) = Unit {0}
IsOfFormat One (Burst number size pack) = ⊥
IsOfFormat Two step = Unit {0}
